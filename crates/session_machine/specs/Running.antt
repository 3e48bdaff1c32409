-- A world of a spec as the program holds it, and what its calls answer.
use Rattle.std.specs.Prelude.{◌≡◌, ℕ, suc, Bool, true, false, ◌==◌, length, Option, None}
use Rattle.std.specs.Option.{option_map}
use Rattle.std.specs.List.{find}
use Rattle.bound_specs.specs.Spec.{SpecFile}
use Rattle.lock_modes.specs.declared.mode.Mode.{Mode}
use Rattle.lock_modes.specs.declared.resource.Resource.{Resource}
use Rattle.lock_queues.specs.declared.wait.Wait.{Wait}
use Rattle.lock_queues.specs.Locks.{wanted_by}
use Rattle.machine_model.specs.Sound.{Sound}
use Rattle.machine_model.specs.Outcome.{IsOutcomeOf}
use Rattle.machine_model.specs.World.{World, look_of, outcome_of}
use Rattle.machine_model.specs.Start.{Start, SetupFailed, SessionSetupFailed, SessionSetupWaits}
use Rattle.session_steps.specs.declared.error.StartError.TheVariants as start_error
use Rattle.session_machine.specs.declared.error.RunError.{RunError}
use Rattle.session_machine.specs.declared.error.RunError.TheVariants as run_error

-- a spec, a world of it, and whether an earlier step was refused memory
pub record Running : Type 0 where
  pub file : SpecFile
  pub world : World
  pub spent : Bool

-- what holds of a world of a spec: it is sound, with a part for each session and one for the control session behind them, and tells of each session's own
-- steps alone
pub record IsKnown (r : Running) : Type 0 where
  pub sound : Sound r.world
  pub sessions : length r.world.sessions ≡ suc r.file.run.sessions
  pub own : IsOutcomeOf r.file.run (outcome_of r.file.run.sessions r.world)

-- what a session holds there; of a world that is spent nothing is told
abbrev pub held_in : Running → ℕ → Resource → Option Mode
held_in r i at = elim r.spent [ true ↦ None | false ↦ look_of r.world i at ]

-- what a session waits for, with the mode that it is to get there; of a world that is spent nothing is told
abbrev pub wait_in : Running → ℕ → Option (Resource × Mode)
wait_in r i = elim r.spent [
  | true ↦ None
  | false ↦
      option_map (λ (v : Wait). (v.resource, wanted_by (look_of r.world) v)) (find (λ (v : Wait). v.session == i) r.world.waits)
]

-- a line is run to no outcome since the spec does not start, unless memory ran out; a want of memory in a start is the run's own
abbrev pub IsNotRunBy : RunError → Start → Type 0
IsNotRunBy (run_error.Start start_error.NoMemory) s = ⊥
IsNotRunBy (run_error.Start (start_error.SetupFailed n)) s = s ≡ SetupFailed n
IsNotRunBy (run_error.Start (start_error.SessionSetupFailed i)) s = s ≡ SessionSetupFailed i
IsNotRunBy (run_error.Start (start_error.SessionSetupWaits i)) s = s ≡ SessionSetupWaits i
IsNotRunBy run_error.NoMemory s = Unit {0}
IsNotRunBy run_error.OutOfRange s = ⊥
IsNotRunBy run_error.TooLong s = ⊥
IsNotRunBy run_error.TooDeep s = ⊥
