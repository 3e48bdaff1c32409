-- A stage between the steps: what is told of its world, and what holds after a step.
use Rattle.std.proofs.lemmas.List.{length-map}
use Rattle.std.proofs.Common.{◌≡◌, refl, sym, ap, ◌∙◌, subst, ℕ, zero, suc, ◌<◌, List, [], ◌∷◌, length, map, take, get_or}
use Rattle.lock_queues.specs.Rules.{NothingRipe}
use Rattle.lock_queues.specs.LockTable.{Locks, look_in}
use Rattle.row_tables.specs.Layers.{Layers}
use Rattle.bound_specs.specs.Spec.{Spec, Step, no_step}
use Rattle.session_steps.specs.Stage.{Member}
use Rattle.session_steps.specs.Stage.{Staged}
use Rattle.machine_model.specs.Session.{Session}
use Rattle.session_steps.specs.State.{sessions_from}
use Rattle.machine_model.specs.World.{look_of, settle, send, outcome_of}
use Rattle.machine_model.specs.Sound.{Sound}
use Rattle.session_steps.specs.Stage.{own_of, world_in, IsWithin, IsStage, IsSettled, transcripts_of}
use Rattle.session_steps.proofs.States.{look-is, length-sessions_from}
use Rattle.machine_model.proofs.Settles.{sound-from, send-sound}
use Rattle.machine_model.specs.Outcome.{TellsOwn, IsOutcomeOf}
use Rattle.machine_model.proofs.Owned.{send-own, outcome-own}
use Rattle.session_steps.proofs.Worlds.{settled-is}

-- what the table tells is what the world tells
pub look-now : (steps : List Step) (s : Staged) → IsStage steps s → look_of (world_in steps s) ≡ look_in s.locks
look-now steps s stage = look-is s.store s.locks (map (own_of steps) s.members)
    (subst (λ n. IsWithin n s.store s.locks) (sym (length-map s.members (own_of steps))) stage.within).below

pub length-world : (steps : List Step) (s : Staged) → length (world_in steps s).sessions ≡ length s.members
length-world steps s = length-sessions_from s.store s.locks 0 (map (own_of steps) s.members) ∙ length-map s.members (own_of steps)

-- the world is sound
pub sound-now : (sessions : ℕ) (steps : List Step) (s : Staged) → IsSettled sessions steps s → Sound (world_in steps s)
sound-now sessions steps s settled = sound-from (world_in steps s) settled.stage.steady settled.unripe

-- where nothing is ripe the world is settled
pub settled-now : (steps : List Step) (s : Staged) → IsStage steps s → NothingRipe s.locks → settle (world_in steps s) ≡ world_in steps s
settled-now steps s stage never = settled-is s.store s.locks (map (own_of steps) s.members)
    (subst (λ n. IsWithin n s.store s.locks) (sym (length-map s.members (own_of steps))) stage.within).below never

-- a step that is sent leaves the world sound
pub sound-after : (sessions : ℕ) (steps : List Step) (s : Staged) (k : ℕ) → IsSettled sessions steps s → (get_or steps k no_step).session < suc sessions
    → Sound (send steps (world_in steps s) k)
sound-after sessions steps s k settled known = send-sound steps (world_in steps s) k (sound-now sessions steps s settled)
    (subst (λ n. (get_or steps k no_step).session < n) (sym (length-world steps s ∙ settled.count)) known)

-- the step that was sent leaves the stage settled
pub settled-after : (sessions : ℕ) (steps : List Step) (x y : Staged) (k : ℕ) → IsSettled sessions steps x → k < length steps
    → (get_or steps k no_step).session < suc sessions → world_in steps y ≡ send steps (world_in steps x) k → IsStage steps y → length y.members
    ≡ length x.members
    → IsSettled sessions steps y
settled-after sessions steps x y k settled lt known sent stage count =
    let sound : Sound (world_in steps y) = subst Sound (sym sent) (sound-after sessions steps x k settled known) in
    record {
      count = count ∙ settled.count;
      stage = stage;
      unripe = sound.unripe;
      own = subst (TellsOwn steps) (sym sent) (send-own steps (world_in steps x) k lt settled.own);
    }

-- ---- what the sessions were told

outcome-from : (l : Layers) (t : Locks) (steps : List Step) (i n : ℕ) (ms : List Member)
    → map (λ (s : Session). s.transcript) (take n (sessions_from l t i (map (own_of steps) ms))) ≡ transcripts_of (take n ms)
outcome-from l t steps i zero ms = refl
outcome-from l t steps i (suc n) [] = refl
outcome-from l t steps i (suc n) (m ∷ ms) = ap (λ ts. m.state.transcript ∷ ts) (outcome-from l t steps (suc i) n ms)

pub outcome-now : (steps : List Step) (n : ℕ) (s : Staged) → outcome_of n (world_in steps s) ≡ transcripts_of (take n s.members)
outcome-now steps n s = outcome-from s.store s.locks steps 0 n s.members

-- what the sessions were told is an outcome of the spec
pub outcome-of : (spec : Spec) (s : Staged) → IsSettled spec.sessions spec.steps s → IsOutcomeOf spec (outcome_of spec.sessions (world_in spec.steps s))
outcome-of spec s settled = outcome-own spec (world_in spec.steps s) (length-world spec.steps s ∙ settled.count) settled.own
