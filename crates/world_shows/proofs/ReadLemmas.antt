-- What is read of a world.
use Rattle.std.proofs.Common.{◌≡◌, refl, sym, ap, ◌∙◌, ℕ, true, false, List, [], ◌∷◌, map, length, Option, Some, None}
use Rattle.lock_modes.specs.Rows.{Tuple}
use Rattle.lock_modes.specs.declared.value.Value.{Value}
use Rattle.lock_queues.specs.Locks.{waits_now}
use Rattle.lock_queues.specs.Reasons.{Want}
use Rattle.lock_queues.proofs.Edges.{want-found, want-waits}
use Rattle.machine_model.specs.declared.status.Status.{Status}
use Rattle.machine_model.specs.declared.status.Status.TheVariants.{Outside, InBlock, Broken}
use Rattle.machine_model.specs.World.{World, look_of, session_at}
use Rattle.line_moments.specs.Left.{standing_by, standing_of}
use Rattle.line_moments.specs.Moments.{want_in}
use Rattle.order_classes.specs.declared.shows.Rest.TheVariants.{StillWaits}
use Rattle.order_classes.specs.Shows.{rest_of, unnumbered}
use Rattle.world_shows.specs.Parts.{at_zero, rest_by}

-- the rows of a table without a key, each at 0
pub zeros-unnumbered : (es : List (Value × Tuple)) → map at_zero es ≡ unnumbered es
zeros-unnumbered [] = refl
zeros-unnumbered (e ∷ es) = ap (λ rows. at_zero e ∷ rows) (zeros-unnumbered es)

-- a session that waits
pub rest-waiting : (w : World) (i : ℕ) → waits_now w.waits i ≡ true → rest_of (standing_of w i) ≡ StillWaits
rest-waiting w i e =
    let found = want-found (length w.sessions) (look_of w) w.waits i e in
    ap (λ o. rest_of (standing_by o (session_at w i).status)) found.1

-- and one that does not
pub rest-free : (w : World) (i : ℕ) → waits_now w.waits i ≡ false → rest_of (standing_of w i) ≡ rest_by (session_at w i).status
rest-free w i e = at (want_in w i) refl
  where
    by-status : (s : Status) → rest_of (standing_by None s) ≡ rest_by s
    by-status Outside = refl
    by-status (InBlock level) = refl
    by-status Broken = refl

    at : (o : Option Want) → want_in w i ≡ o → rest_of (standing_of w i) ≡ rest_by (session_at w i).status
    at None is = ap (λ o. rest_of (standing_by o (session_at w i).status)) is ∙ by-status (session_at w i).status
    at (Some want) is =
        absurd (let waits = want-waits (length w.sessions) (look_of w) w.waits i want is in let bad : false ≡ true = sym e ∙ waits in cc)
