-- Each moment is true of the world behind it: of its session, and of the others, of whom nothing is changed.
use Rattle.std.proofs.Common.{◌≡◌, refl, sym, ap, ◌∙◌, ℕ, ◌<◌, Bool, true, false, cond, not, ◌==◌, List, [], ◌∷◌, ◌++◌, length, get_or}
use Rattle.std.proofs.Common.{⊎_elim, append-nil, length-set, get_or-set_other, eq-eqb}
use Rattle.lock_queues.specs.declared.wait.Wait.{Wait}
use Rattle.lock_queues.specs.Locks.{Spot}
use Rattle.bound_specs.specs.Spec.{Step, no_step}
use Rattle.events.specs.declared.event.Event.{Event}
use Rattle.events.specs.declared.event.Event.TheVariants.{Sent, Resumed, NotSent}
use Rattle.machine_model.specs.Session.{Session, Task, note, tasks_of}
use Rattle.machine_model.specs.Go.{Run, go}
use Rattle.machine_model.specs.World.{World, fresh, session_at, look_of, scene_of, goes, granted}
use Rattle.machine_model.specs.Sound.{Steady, Sound}
use Rattle.machine_model.proofs.Kept.{Pending}
use Rattle.machine_model.proofs.Settles.{Grant, Entering, run, session-other, goes-count, goes-steady, granted-steady, touched-steady}
use Rattle.machine_model.proofs.Settles.{entering, entering-granted, steady-of}
use Rattle.lock_queues.specs.Reasons.{Among}
use Rattle.line_moments.specs.Moments.{Going, line_goings, told_only, holding, without, waits_but, IsTrue}
use Rattle.line_moments.proofs.Telling.{put-grows, goes-grows, granted-grows, go-before}
use Rattle.line_moments.proofs.Holding.{put-holds, sent-holds, granted-holds}
use Rattle.line_moments.proofs.Waiting.{line-each}

-- ---- the waits of the others

but-append : (i : ℕ) (us vs : List Wait) → waits_but i (us ++ vs) ≡ waits_but i us ++ waits_but i vs
but-append i [] vs = refl
but-append i (u ∷ us) vs = at (not (u.session == i)) (but-append i us vs)
  where
    at : (b : Bool) → waits_but i (us ++ vs) ≡ waits_but i us ++ waits_but i vs
        → cond b (u ∷ waits_but i (us ++ vs)) (waits_but i (us ++ vs)) ≡ cond b (u ∷ waits_but i us) (waits_but i us) ++ waits_but i vs
    at true rec = ap (λ x. u ∷ x) rec
    at false rec = rec

but-own : (i : ℕ) (u : Wait) (vs : List Wait) → u.session ≡ i → waits_but i (u ∷ vs) ≡ waits_but i vs
but-own i u vs is = ap (λ b. cond (not b) (u ∷ waits_but i vs) (waits_but i vs)) (eq-eqb u.session i is)

-- a session that goes adds at most its own wait
goes-but : (w : World) (i : ℕ) (s : Session) (ts : List Task) → Entering w i s ts → waits_but i (goes w i s ts).waits ≡ waits_but i w.waits
goes-but w i s ts en = ⊎_elim (λ e. ap (waits_but i) e) more (run w i s ts en).ends
  where
    more : Pending (scene_of w) i (length ts) (go (scene_of w) i s w.rows ts) → waits_but i (goes w i s ts).waits ≡ waits_but i w.waits
    more p =
        let v : Wait = record { session = i; resource = p.resource; mode = p.mode } in
        ap (waits_but i) p.waits ∙ but-append i w.waits (v ∷ []) ∙ ap (λ x. waits_but i w.waits ++ x) (but-own i v [] refl)
        ∙ append-nil (waits_but i w.waits)

granted-but : (w : World) (spot : Spot) → Steady w → Grant (length w.sessions) (look_of w) w.waits spot
    → waits_but spot.wait.session (granted w spot).waits ≡ waits_but spot.wait.session w.waits
granted-but w spot st g =
    let i = spot.wait.session in
    goes-but (without w spot) i (note (holding w spot) Resumed) (session_at w i).rest (entering-granted w spot st g)
    ∙ but-append i spot.before spot.after
    ∙ ap (λ x. waits_but i spot.before ++ x) (sym (but-own i spot.wait spot.after refl))
    ∙ sym (but-append i spot.before (spot.wait ∷ spot.after))
    ∙ ap (waits_but i) (sym g.splits)

-- ---- what is told first

abbrev Begins : Event → List Event → Type 0
Begins e es = (rest : List Event) × (es ≡ e ∷ rest)

-- a session that was told only this is told this first
goes-first : (w : World) (i : ℕ) (s : Session) (e : Event) (ts : List Task)
    → Begins e (go (scene_of w) i (told_only s e) w.rows ts).session.transcript
goes-first w i s e ts =
    let u : Session = record s { transcript = [] } in
    ((go (scene_of w) i u w.rows ts).session.transcript, ap (λ (r : Run). r.session.transcript) (go-before (e ∷ []) (scene_of w) i u w.rows ts))

-- ---- each moment of a line

pub moments-true : (steps : List Step) (w : World) (ks : List ℕ) → Sound w → ((k : ℕ) → (get_or steps k no_step).session < length w.sessions) → (g : Going)
    → Among g (line_goings steps w ks) → IsTrue steps g
moments-true steps = line-each steps (IsTrue steps)
    (λ w k sound lt is.
    let i = (get_or steps k no_step).session in
    let s = note (session_at w i) (Sent k) in
    let ts = tasks_of (session_at w (get_or steps k no_step).session).status (get_or steps k no_step).statements in
    let en = entering w i s (session_at w i).status (get_or steps k no_step).statements (steady-of w sound) lt is refl refl in
    let first = goes-first w i (session_at w i) (Sent k) ts in
    record {
      steady = goes-steady w i s ts en;
      opens = (k, first.0, refl, first.1);
      told = goes-grows w i (told_only (session_at w i) (Sent k)) ts lt;
      held = sent-holds steps w k lt;
      status = refl;
      count = goes-count w i s ts en;
      others = λ c ne. session-other w i c (go (scene_of w) i s w.rows ts) ne;
      waits = goes-but w i s ts en;
    })
    (λ w spot st h.
    let i = spot.wait.session in
    let s = note (holding w spot) Resumed in
    let ts = (session_at w i).rest in
    let en = entering-granted w spot st h in
    record {
      steady = granted-steady w spot st h;
      opens = goes-first (without w spot) i (holding w spot) Resumed ts;
      told = granted-grows steps w spot en.known;
      held = granted-holds steps w spot en.known;
      status = refl;
      count = goes-count (without w spot) i s ts en;
      others = λ c ne. session-other (without w spot) i c (go (scene_of (without w spot)) i s w.rows ts) ne;
      waits = granted-but w spot st h;
    })
    (λ w k sound lt is.
    let i = (get_or steps k no_step).session in
    let s = note (session_at w i) (NotSent k) in
    record {
      steady = touched-steady w i s (record { overlay = refl; held = refl; rest = refl }) (steady-of w sound);
      opens = (k, refl, refl);
      told = put-grows w i s (NotSent k ∷ []) lt refl;
      held = put-holds w i s [] lt refl;
      status = refl;
      count = length-set w.sessions i s;
      others = λ c ne. get_or-set_other w.sessions i c s fresh ne;
      waits = refl;
    })
