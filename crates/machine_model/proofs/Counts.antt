-- The sessions of a world stay so many, and each step is of one of them.
use Rattle.std.proofs.Common.{◌≡◌, refl, sym, ◌∙◌, subst, ℕ, zero, suc, ◌<◌, Bool, true, false, List, [], ◌∷◌, length, get_or, Option, Some, None, arith}
use Rattle.std.proofs.Common.{length-set}
use Rattle.lock_queues.specs.Locks.{Spot, next_grant, waits_now}
use Rattle.machine_model.specs.World.{World, session_at, look_of, noted, goes, granted, settle, settle_for, left_to_do, send, send_all}
use Rattle.bound_specs.specs.Spec.{Step, no_step, Spec, EachStep, IsBound}
use Rattle.machine_model.specs.Session.{note, tasks_of}
use Rattle.events.specs.declared.event.Event.TheVariants.{Sent, NotSent}
use Rattle.machine_model.specs.Start.{Started, start}
use Rattle.machine_model.specs.Sound.{Sound}
use Rattle.machine_model.proofs.Settles.{send-sound}
use Rattle.machine_model.proofs.Starts.{start-count}

settle_for-count : (n : ℕ) (w : World) → length (settle_for n w).sessions ≡ length w.sessions
settle_for-count zero w = refl
settle_for-count (suc n) w = at (next_grant (length w.sessions) (look_of w) w.waits) (λ spot. settle_for-count n (granted w spot))
  where
    at : (o : Option Spot) → ((spot : Spot) → length (settle_for n (granted w spot)).sessions ≡ length (granted w spot).sessions)
        → length (let x : World = elim o [ None ↦ w | Some spot ↦ settle_for n (granted w spot) ] in x.sessions) ≡ length w.sessions
    at None rec = refl
    at (Some spot) rec = rec spot ∙ length-set w.sessions spot.wait.session _

pub send-count : (steps : List Step) (w : World) (k : ℕ) → length (send steps w k).sessions ≡ length w.sessions
send-count steps w k = at (waits_now w.waits i)
  where
    i : ℕ
    i = (get_or steps k no_step).session

    at : (b : Bool) → length (let x : World =
        elim b [ true ↦ noted w i (NotSent k) | false ↦ settle (goes w i (note (session_at w i) (Sent k)) (tasks_of (session_at w i).status (get_or steps k no_step).statements)) ]
        in x.sessions) ≡ length w.sessions
    at true = length-set w.sessions i _
    at false = settle_for-count (left_to_do (goes w i (note (session_at w i) (Sent k)) (tasks_of (session_at w i).status (get_or steps k no_step).statements)))
        (goes w i (note (session_at w i) (Sent k)) (tasks_of (session_at w i).status (get_or steps k no_step).statements)) ∙ length-set w.sessions i _

-- each step is one of a session of the world
abbrev pub Fitting : List Step → World → Type 0
Fitting steps w = (k : ℕ) → (get_or steps k no_step).session < length w.sessions

pub send-fitting : (steps : List Step) (w : World) (n : ℕ) → Fitting steps w → Fitting steps (send steps w n)
send-fitting steps w n f k = subst (λ c. (get_or steps k no_step).session < c) (sym (send-count steps w n)) (f k)

each-fits : (n : ℕ) (steps : List Step) → EachStep (λ s. s.session < n) steps → (k : ℕ) → (get_or steps k no_step).session < suc n
each-fits n [] each k = omega arith
each-fits n (s ∷ ss) each zero = (let lt : s.session < n = each.0 in omega arith)
each-fits n (s ∷ ss) each (suc k) = each-fits n ss each.1 k

pub bound-fits : (spec : Spec) (w : World) → IsBound spec → start spec ≡ Started w → Fitting spec.steps w
bound-fits spec w bound e k = subst (λ n. (get_or spec.steps k no_step).session < n) (sym (start-count spec w bound.session_setups e))
    (each-fits spec.sessions spec.steps bound.steps k)

pub line-count : (steps : List Step) (w : World) (ks : List ℕ) → length (send_all steps w ks).sessions ≡ length w.sessions
line-count steps w [] = refl
line-count steps w (k ∷ ks) = line-count steps (send steps w k) ks ∙ send-count steps w k

-- a line leaves a sound world sound
pub line-sound : (steps : List Step) (w : World) (ks : List ℕ) → Sound w → Fitting steps w → Sound (send_all steps w ks)
line-sound steps w [] sound fit = sound
line-sound steps w (k ∷ ks) sound fit = line-sound steps (send steps w k) ks (send-sound steps w k sound (fit k)) (send-fitting steps w k fit)
