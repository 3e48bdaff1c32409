-- The start of a spec: its main setups, then the setup of each session.
use Rattle.std.specs.Prelude.{◌≡◌, ◌≢◌, ℕ, suc, length, Bool, true, false, not, ◌||◌, List, [], ◌∷◌, set, replicate}
use Rattle.std.specs.List.{list_any}
use Rattle.finite_maps.specs.Map.{empty}
use Rattle.lock_queues.specs.Locks.{waits_now}
use Rattle.events.specs.declared.event.Event.{Event}
use Rattle.events.specs.declared.event.Event.TheVariants.{Sent, Row as RowEvent, Rows, Inserted, Updated, Deleted, Began, Committed, RolledBack, Locked, Set, Warned, Failed, Waiting, Resumed, Done, NotSent}
use Rattle.machine_model.specs.declared.status.Status.{Status}
use Rattle.machine_model.specs.declared.status.Status.TheVariants.{Outside, InBlock, Broken}
use Rattle.bound_statements.specs.declared.statement.Bound.{Bound}
use Rattle.machine_model.specs.Session.{Session, tasks_of}
use Rattle.bound_specs.specs.Spec.{Spec}
use Rattle.machine_model.specs.World.{World, fresh, goes, session_at}
use Rattle.machine_model.specs.Sound.{Steady}

pub data Start : Type 0 where
  Started : (world : World) → Start
  SetupFailed : (block : ℕ) → Start
  SessionSetupFailed : (session : ℕ) → Start
  SessionSetupWaits : (session : ℕ) → Start

abbrev pub is_failure : Event → Bool
is_failure (Sent k) = false
is_failure (RowEvent r) = false
is_failure (Rows n) = false
is_failure (Inserted n) = false
is_failure (Updated n) = false
is_failure (Deleted n) = false
is_failure Began = false
is_failure Committed = false
is_failure RolledBack = false
is_failure Locked = false
is_failure Set = false
is_failure (Warned w) = false
is_failure (Failed f) = true
is_failure Waiting = false
is_failure Resumed = false
is_failure Done = false
is_failure (NotSent k) = false

abbrev pub has_failed : Session → Bool
has_failed s = list_any is_failure s.transcript

abbrev pub is_outside : Status → Bool
is_outside Outside = true
is_outside (InBlock level) = false
is_outside Broken = false

-- the session's transcript is forgotten
abbrev pub forgotten : World → ℕ → World
forgotten w i = record w { sessions = set w.sessions i (record (session_at w i) { transcript = [] }) }

abbrev pub after_setup : World → ℕ → List Bound → World
after_setup w i block = goes w i (session_at w i) (tasks_of (session_at w i).status block)

abbrev pub main_setups : ℕ → ℕ → World → List (List Bound) → Start
main_setups control n w [] = Started w
main_setups control n w (block ∷ blocks) =
    let w2 = after_setup w control block in
    elim (has_failed (session_at w2 control) || not (is_outside (session_at w2 control).status)) [
      | true ↦ SetupFailed n
      | false ↦ main_setups control (suc n) (forgotten w2 control) blocks
    ]

abbrev pub session_setups : ℕ → World → List (List Bound) → Start
session_setups i w [] = Started w
session_setups i w (block ∷ blocks) =
    let w2 = after_setup w i block in
    elim (has_failed (session_at w2 i)) [
      | true ↦ SessionSetupFailed i
      | false ↦ elim (waits_now w2.waits i) [
        | true ↦ SessionSetupWaits i
        | false ↦ session_setups (suc i) (forgotten w2 i) blocks
      ]
    ]

abbrev pub started_then : Start → (World → Start) → Start
started_then (Started w) f = f w
started_then (SetupFailed n) f = SetupFailed n
started_then (SessionSetupFailed n) f = SessionSetupFailed n
started_then (SessionSetupWaits n) f = SessionSetupWaits n

-- the main setups, sent by a session past the last
abbrev pub set_up : Spec → Start
set_up spec = main_setups spec.sessions 0 (record { rows = empty; sessions = replicate (suc spec.sessions) fresh; waits = [] }) spec.setups

abbrev pub start : Spec → Start
start spec = started_then (set_up spec) (λ w. session_setups 0 w spec.session_setups)

-- ---- between the setups

-- nobody waits, and none but the control session has done anything
pub record IsAlone (control n : ℕ) (w : World) : Type 0 where
  pub steady : Steady w
  pub idle : w.waits ≡ []
  pub others : (c : ℕ) → c ≢ control → session_at w c ≡ fresh
  pub count : length w.sessions ≡ n

-- nobody waits
pub record IsIdle (n : ℕ) (w : World) : Type 0 where
  pub steady : Steady w
  pub idle : w.waits ≡ []
  pub count : length w.sessions ≡ n
