-- What is told of the waits of a line is exact.
use Rattle.std.proofs.Common.{◌≡◌, refl, sym, ap, subst, ℕ, zero, suc, ◌<◌, Bool, true, false, List, [], ◌∷◌, length, get_or, Option, Some}
use Rattle.std.proofs.Common.{None, inl, inr, ⊎_elim, ◌↔◌}
use Rattle.lock_queues.specs.Locks.{Spot, next_grant, waits_now}
use Rattle.lock_queues.specs.Reasons.{Want, Among, IsExact}
use Rattle.lock_queues.proofs.WaitLists.{wait-map}
use Rattle.lock_queues.proofs.Edges.{among-parts, want-found, want-waits, want-exact}
use Rattle.bound_specs.specs.Spec.{Step, no_step}
use Rattle.bound_statements.specs.declared.statement.Bound.{Bound}
use Rattle.events.specs.declared.event.Event.TheVariants.{Sent, NotSent}
use Rattle.machine_model.specs.Session.{note, tasks_of}
use Rattle.machine_model.specs.World.{World, session_at, look_of, left_to_do, granted, send}
use Rattle.machine_model.specs.Sound.{Steady, Sound, Ready}
use Rattle.machine_model.proofs.Settles.{Grant, next-grant, granted-steady, entering, goes-steady, steady-of, send-sound, session-known, touched-steady}
use Rattle.machine_model.proofs.Counts.{send-fitting}
use Rattle.line_moments.specs.Moments.{Sends, GoesOn, Skips, Going, behind, behind_by, settle_goings, goings, line_goings, want_in}
use Rattle.line_moments.specs.declared.moment.Refusal.{Refusal}
use Rattle.line_moments.specs.declared.moment.Refusal.TheVariants.{Closes, Wants}
use Rattle.line_moments.specs.declared.moment.Ending.TheVariants.{Awaits}
use Rattle.line_moments.specs.Moments.{ending_by, session_by, refusal_by, moment_of}
use Rattle.line_moments.specs.Laws.{WantsAreExact}

-- ---- one world

pub wait-exact : (w : World) (a : ℕ) (want : Want) → Steady w → want_in w a ≡ Some want → IsExact (look_of w) w.waits a want
wait-exact w a want st e =
    want-exact (length w.sessions) (look_of w) w.waits st.distinct (session-known w)
    (wait-map (Ready w) (λ v. v.session < length w.sessions) (λ v r. r.known) w.waits st.ready) a want e

pub wants-exact : WantsAreExact
wants-exact w st a = (
  ((λ h. want-found (length w.sessions) (look_of w) w.waits a h), (λ x. want-waits (length w.sessions) (look_of w) w.waits a x.0 x.1)),
  (λ want e. wait-exact w a want st e),
)

-- ---- each going of a line

module _ (steps : List Step) (P : Going → Type 0)
    (sends : (w : World) (k : ℕ) → Sound w → (get_or steps k no_step).session < length w.sessions
    → waits_now w.waits (get_or steps k no_step).session ≡ false → P (record { world = w; cause = Sends k }))
    (goes_on : (w : World) (spot : Spot) → Steady w → Grant (length w.sessions) (look_of w) w.waits spot → P (record { world = w; cause = GoesOn spot }))
    (skips : (w : World) (k : ℕ) → Sound w → (get_or steps k no_step).session < length w.sessions
    → waits_now w.waits (get_or steps k no_step).session ≡ true → P (record { world = w; cause = Skips k })) where
  settle-each : (n : ℕ) (w : World) → Steady w → (g : Going) → Among g (settle_goings n w) → P g
  settle-each zero w st g m = absurd m
  settle-each (suc n) w st g m = at (next_grant (length w.sessions) (look_of w) w.waits) refl
      (λ spot h. settle-each n (granted w spot) (granted-steady w spot st h) g) m
    where
      head : (spot : Spot) → Grant (length w.sessions) (look_of w) w.waits spot → (Among g (settle_goings n (granted w spot)) → P g)
          → Among g (record { world = w; cause = GoesOn spot } ∷ settle_goings n (granted w spot)) → P g
      head spot h rec (inl e) = subst P (sym e) (goes_on w spot st h)
      head spot h rec (inr k) = rec k

      at : (o : Option Spot) → next_grant (length w.sessions) (look_of w) w.waits ≡ o
          → ((spot : Spot) → Grant (length w.sessions) (look_of w) w.waits spot → Among g (settle_goings n (granted w spot)) → P g)
          → Among g (elim o [ None ↦ [] | Some spot ↦ record { world = w; cause = GoesOn spot } ∷ settle_goings n (granted w spot) ]) → P g
      at None is rec k = absurd k
      at (Some spot) is rec k = let h = next-grant (length w.sessions) (look_of w) w.waits spot is in head spot h (rec spot h) k

  send-each : (w : World) (k : ℕ) → Sound w → (get_or steps k no_step).session < length w.sessions → (g : Going) → Among g (goings steps w k) → P g
  send-each w k sound lt g m = at (waits_now w.waits i) refl m
    where
      i : ℕ
      i = (get_or steps k no_step).session

      ss : List Bound
      ss = (get_or steps k no_step).statements

      one : waits_now w.waits (get_or steps k no_step).session ≡ true → Among g (record { world = w; cause = Skips k } ∷ []) → P g
      one is (inl e) = subst P (sym e) (skips w k sound lt is)
      one is (inr n) = absurd n

      more : waits_now w.waits (get_or steps k no_step).session ≡ false → Among g (record { world = w; cause = Sends k }
          ∷ settle_goings (left_to_do (behind_by steps w (Sends k))) (behind_by steps w (Sends k))) → P g
      more is (inl e) = subst P (sym e) (sends w k sound lt is)
      more is (inr n) =
          settle-each (left_to_do (behind_by steps w (Sends k))) (behind_by steps w (Sends k))
          (goes-steady w i (note (session_at w i) (Sent k)) (tasks_of (session_at w i).status ss)
          (entering w i (note (session_at w i) (Sent k)) (session_at w i).status ss (steady-of w sound) lt is refl refl)) g n

      at : (b : Bool) → waits_now w.waits (get_or steps k no_step).session ≡ b
          → Among g (elim b [
            | true ↦ record { world = w; cause = Skips k } ∷ []
            | false ↦ record { world = w; cause = Sends k } ∷ settle_goings (left_to_do (behind_by steps w (Sends k))) (behind_by steps w (Sends k))
          ]) → P g
      at true is n = one is n
      at false is n = more is n

  pub line-each : (w : World) (ks : List ℕ) → Sound w → ((k : ℕ) → (get_or steps k no_step).session < length w.sessions) → (g : Going)
      → Among g (line_goings steps w ks) → P g
  line-each w [] sound fit g m = absurd m
  line-each w (k ∷ ks) sound fit g m =
      ⊎_elim (λ h. send-each w k sound (fit k) g h)
      (λ h. line-each (send steps w k) ks (send-sound steps w k sound (fit k)) (send-fitting steps w k fit) g h)
      (among-parts g (goings steps w k) (line_goings steps (send steps w k) ks) m)

-- the world behind each is steady
pub behind-steady : (steps : List Step) (w : World) (ks : List ℕ) → Sound w → ((k : ℕ) → (get_or steps k no_step).session < length w.sessions) → (g : Going)
    → Among g (line_goings steps w ks) → Steady (behind steps g)
behind-steady steps = line-each steps (λ g. Steady (behind steps g))
    (λ w k sound lt is.
    let i = (get_or steps k no_step).session in
    let ss = (get_or steps k no_step).statements in
    goes-steady w i (note (session_at w i) (Sent k)) (tasks_of (session_at w i).status ss)
    (entering w i (note (session_at w i) (Sent k)) (session_at w i).status ss (steady-of w sound) lt is refl refl))
    (λ w spot st h. granted-steady w spot st h)
    (λ w k sound lt is.
    let i = (get_or steps k no_step).session in
    touched-steady w i (note (session_at w i) (NotSent k)) (record { overlay = refl; held = refl; rest = refl }) (steady-of w sound))

awaits-is : (o : Option Want) (r : Option Refusal) (want : Want) → ending_by o r ≡ Awaits want → o ≡ Some want
awaits-is (Some x) r want e = cc
awaits-is None None want e = cc
awaits-is None (Some (Closes ring)) want e = cc
awaits-is None (Some (Wants own)) want e = cc

pub moments-wait : (steps : List Step) (w : World) (ks : List ℕ) → Sound w → ((k : ℕ) → (get_or steps k no_step).session < length w.sessions) → (g : Going)
    → Among g (line_goings steps w ks)
    → ((waits_now (behind steps g).waits (session_by steps g.cause) ≡ true) ↔ ((want : Want) × ((moment_of steps g).ending ≡ Awaits want)))
    × ((want : Want) → (moment_of steps g).ending ≡ Awaits want → IsExact (look_of (behind steps g)) (behind steps g).waits (session_by steps g.cause) want)
moments-wait steps w ks sound fit g m =
    let v = behind steps g in
    let i = session_by steps g.cause in
    let r = refusal_by steps g.world g.cause in (
      (
        λ h. (let x = want-found (length v.sessions) (look_of v) v.waits i h in (x.0, ap (λ o. ending_by o r) x.1)),
        λ x. want-waits (length v.sessions) (look_of v) v.waits i x.0 (awaits-is (want_in v i) r x.0 x.1),
      ),
      λ want e. wait-exact v i want (behind-steady steps w ks sound fit g m) (awaits-is (want_in v i) r want e),
    )
