-- What the sessions of a spec may be told, and the outcome of a line.
use Rattle.std.specs.Prelude.{◌≡◌, ℕ, ◌<◌, List, [], length, get_or, All, Option, Some, None, ⊤}
use Rattle.bound_specs.specs.Spec.{Spec, Step, no_step}
use Rattle.events.specs.declared.event.Event.{Event}
use Rattle.events.specs.declared.event.Event.TheVariants.{Sent, Row as RowEvent, Rows, Inserted, Updated, Deleted, Began, Committed, RolledBack, Locked, Set, Warned, Failed, Waiting, Resumed, Done, NotSent}
use Rattle.machine_model.specs.World.{World, session_at, send_all, outcome_of}
use Rattle.machine_model.specs.Start.{Started, start}

-- the step with this number is one of the session
abbrev pub IsOwnStep : List Step → ℕ → ℕ → Type 0
IsOwnStep steps i k = (k < length steps) × ((get_or steps k no_step).session ≡ i)

-- a session may be told this: of steps, only of its own
abbrev pub IsToldOf : List Step → ℕ → Event → Type 0
IsToldOf steps i (Sent k) = IsOwnStep steps i k
IsToldOf steps i (RowEvent r) = ⊤
IsToldOf steps i (Rows n) = ⊤
IsToldOf steps i (Inserted n) = ⊤
IsToldOf steps i (Updated n) = ⊤
IsToldOf steps i (Deleted n) = ⊤
IsToldOf steps i Began = ⊤
IsToldOf steps i Committed = ⊤
IsToldOf steps i RolledBack = ⊤
IsToldOf steps i Locked = ⊤
IsToldOf steps i Set = ⊤
IsToldOf steps i (Warned w) = ⊤
IsToldOf steps i (Failed f) = ⊤
IsToldOf steps i Waiting = ⊤
IsToldOf steps i Resumed = ⊤
IsToldOf steps i Done = ⊤
IsToldOf steps i (NotSent k) = IsOwnStep steps i k

-- what a run of the spec may tell: a transcript for each session, which names steps of that session alone
pub record IsOutcomeOf (spec : Spec) (outcome : List (List Event)) : Type 0 where
  pub each : length outcome ≡ spec.sessions
  pub own : (i : ℕ) → All (IsToldOf spec.steps i) (get_or outcome i [])

-- each session of the world was told of its own steps alone
abbrev pub TellsOwn : List Step → World → Type 0
TellsOwn steps w = (i : ℕ) → All (IsToldOf steps i) (session_at w i).transcript

-- the outcome of a line: the transcripts after its steps were sent in turn from the start, none where the spec does not start
abbrev pub outcome_of_line : Spec → List ℕ → Option (List (List Event))
outcome_of_line spec line = elim (start spec) [ Started w ↦ Some (outcome_of spec.sessions (send_all spec.steps w line)) | _ ↦ None ]
