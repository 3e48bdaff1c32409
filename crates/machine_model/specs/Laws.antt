-- The laws of the machine.
use Rattle.std.specs.Prelude.{◌≡◌, ℕ, ◌<◌, ◌≤◌, Bool, true, false, ◌↔◌, List, length, get_or, suc, All}
use Rattle.lock_queues.specs.Locks.{way_below, waits_for, waits_now}
use Rattle.lock_modes.specs.Rows.{Rows'}
use Rattle.bound_statements.specs.Levels.{AsksAlways}
use Rattle.bound_statements.specs.declared.statement.Bound.{Bound}
use Rattle.machine_model.specs.declared.status.Status.{Status}
use Rattle.machine_model.specs.Session.{Session, Goes, behind, in_status, tasks_of, locked_tasks, perform}
use Rattle.bound_specs.specs.Spec.{Spec, Step, no_step, IsBound}
use Rattle.machine_model.specs.Start.{Started, start}
use Rattle.machine_model.specs.World.{World, send, send_all, outcome_of, look_of}
use Rattle.machine_model.specs.Outcome.{IsOutcomeOf}
use Rattle.machine_model.specs.Sound.{Sound, Way}

-- the step's session is one of the world
abbrev pub IsOf : List Step → World → ℕ → Type 0
IsOf steps w k = (get_or steps k no_step).session < length w.sessions

abbrev pub SendKeepsSound : Type 0
SendKeepsSound = (steps : List Step) (w : World) (k : ℕ) → Sound w → IsOf steps w k → Sound (send steps w k)

abbrev pub WaitsAreRings : Type 0
WaitsAreRings = (edge : ℕ → ℕ → Bool) (n : ℕ) → ((a b : ℕ) → edge a b ≡ true → a < n) → (a b : ℕ) → (way_below edge n a b ≡ true) ↔ Way edge a b

-- a spec that starts, starts in a sound world
abbrev pub StartsSound : Type 0
StartsSound = (spec : Spec) (w : World) → length spec.session_setups ≤ spec.sessions → start spec ≡ Started w → Sound w

-- each session that waits reaches one that does not
abbrev pub WaitersReach : Type 0
WaitersReach = (w : World) → Sound w → (a : ℕ) → waits_now w.waits a ≡ true → (b : ℕ) × Way (waits_for (look_of w) w.waits) a b × (waits_now w.waits b ≡ false)

-- every world of a line of a spec is sound, with a part for each session and one for the control session behind them
abbrev pub WorldsReachedAreSound : Type 0
WorldsReachedAreSound =
    (spec : Spec) (w : World) (ks : List ℕ) → IsBound spec → start spec ≡ Started w
    → Sound (send_all spec.steps w ks) × (length (send_all spec.steps w ks).sessions ≡ suc spec.sessions)

-- in every world of a line of a spec, each session was told of its own steps alone
abbrev pub OutcomesAreOwn : Type 0
OutcomesAreOwn =
    (spec : Spec) (w : World) (ks : List ℕ) → IsBound spec → start spec ≡ Started w → All (λ k. k < length spec.steps) ks
    → IsOutcomeOf spec (outcome_of spec.sessions (send_all spec.steps w ks))

-- statements that ask for their whole plans at each level come to the same tasks wherever their session stands: no level has an effect
abbrev pub LevelsChangeNothing : Type 0
LevelsChangeNothing = (x : Status) (sts : List Bound) → All AsksAlways sts → tasks_of x sts ≡ locked_tasks sts

-- a statement that goes leaves its session where it was foreseen with its block, and the level at which it stands is nothing to what it does
pub record StatusesAreForeseen : Type 0 where
  pub behind : (s s2 : Session) (rows rows2 : Rows') (st : Bound) → perform s rows st ≡ Goes s2 rows2 → s2.status ≡ behind s.status st
  pub same : (x : Status) (s : Session) (rows : Rows') (st : Bound) → perform s rows (in_status x st) ≡ perform s rows st
