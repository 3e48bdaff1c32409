-- A session, what is left of its step, and what a statement does whose requests are had.
use Rattle.std.specs.Prelude.{Bool, List, [], ◌∷◌, ◌++◌}
use Rattle.finite_maps.specs.Map.{Map, empty}
use Rattle.lock_modes.specs.Resource.{resource_order}
use Rattle.lock_modes.specs.Rows.{Rows'}
use Rattle.bound_statements.specs.Levels.{asked, at_level, block_level}
use Rattle.bound_statements.specs.Plan.{Request, plan, nowait}
use Rattle.row_tables.specs.Overlay.{Overlay, lay, written}
use Rattle.statement_evaluation.specs.Effect.{Effect, Gives, Faults, effect}
use Rattle.lock_modes.specs.declared.mode.Mode.{Mode}
use Rattle.lock_modes.specs.declared.resource.Resource.{Resource}
use Rattle.events.specs.declared.event.Fault.{Fault}
use Rattle.events.specs.declared.event.Fault.TheVariants.{Aborted}
use Rattle.events.specs.declared.event.Warning.TheVariants.{InBlock as AlreadyInBlock, NoBlock}
use Rattle.events.specs.declared.event.Event.{Event}
use Rattle.events.specs.declared.event.Event.TheVariants.{Began, Committed, RolledBack, Warned}
use Rattle.machine_model.specs.declared.status.Status.{Status}
use Rattle.machine_model.specs.declared.status.Status.TheVariants.{Outside, InBlock, Broken}
use Rattle.bound_statements.specs.declared.statement.Level.{Level}
use Rattle.bound_statements.specs.declared.statement.Bound.{Bound}
use Rattle.bound_statements.specs.declared.statement.Bound.TheVariants.{Select, Insert, Update, Delete, Begin, Commit, Rollback, Lock, SetVariable}

-- a step is its requests and its statements, each statement behind its requests, and at its level; the requests of a statement wait, or all refuse to
pub data Task : Type 0 where
  Ask : (nowait : Bool) (resource : Resource) (mode : Mode) → Task
  Do : (statement : Bound) → Task

abbrev pub asks : Bool → List Request → List Task → List Task
asks nowait [] ts = ts
asks nowait (q ∷ qs) ts = Ask nowait q.resource q.mode ∷ asks nowait qs ts

abbrev pub Held : Type 0
Held = Map resource_order Mode

-- what a session has of its own
pub record Session : Type 0 where
  pub overlay : Overlay
  pub held : Held
  pub status : Status
  pub rest : List Task
  pub transcript : List Event

abbrev pub note : Session → Event → Session
note s e = record s { transcript = s.transcript ++ e ∷ [] }

-- the session without its overlay and its locks
abbrev pub released : Session → Session
released s = record s { overlay = empty; held = empty }

-- a transaction that ends leaves its session outside a block
abbrev pub ended : Session → Session
ended s = record (released s) { status = Outside }

-- ---- one statement

pub data Kind : Type 0 where
  Begins : (level : Level) → Kind
  Commits : Kind
  RollsBack : Kind
  Works : Kind

abbrev pub kind : Bound → Kind
kind (Begin level) = Begins (block_level level)
kind Commit = Commits
kind Rollback = RollsBack
kind (Select t k c by o l) = Works
kind (Insert t k r) = Works
kind (Update t k a c) = Works
kind (Delete t k c) = Works
kind (Lock t m n) = Works
kind SetVariable = Works

-- where a session stands with its block behind a statement that goes: in a block another one does not begin, and the level stays
abbrev pub behind_by : Status → Kind → Status
behind_by Outside (Begins level) = InBlock level
behind_by (InBlock of) (Begins level) = InBlock of
behind_by Broken (Begins level) = Broken
behind_by x Commits = Outside
behind_by x RollsBack = Outside
behind_by x Works = x

abbrev pub behind : Status → Bound → Status
behind x st = behind_by x (kind st)

-- a statement at the level of its transaction, where its session stands so: outside a block it is as it stands
abbrev pub in_status : Status → Bound → Bound
in_status Outside st = st
in_status (InBlock level) st = at_level level st
in_status Broken st = st

-- what statements come to that are sent where a session stands so with its block: within a step each statement runs, or the step ends
abbrev pub tasks_of : Status → List Bound → List Task
tasks_of x [] = []
tasks_of x (st ∷ sts) =
    asks (nowait (in_status x st)) (asked (in_status x st)) (Do (in_status x st) ∷ tasks_of (behind x st) sts)

-- what statements come to that ask for their whole plans at each level, wherever their session stands
abbrev pub locked_tasks : List Bound → List Task
locked_tasks [] = []
locked_tasks (st ∷ sts) = asks (nowait st) (plan st) (Do st ∷ locked_tasks sts)

-- what a statement does whose requests are had
pub data Performed : Type 0 where
  Goes : (session : Session) (rows : Rows') → Performed
  Fails : (fault : Fault) → Performed

abbrev pub worked : Session → Rows' → Effect → Performed
worked s rows (Gives events writes) = Goes (record s { overlay = written writes s.overlay; transcript = s.transcript ++ events }) rows
worked s rows (Faults f) = Fails f

abbrev pub perform_by : Status → Kind → Session → Rows' → Bound → Performed
perform_by Outside (Begins level) s rows st = Goes (note (record s { status = InBlock level }) Began) rows
perform_by (InBlock of) (Begins level) s rows st = Goes (note (note s (Warned AlreadyInBlock)) Began) rows
perform_by Broken (Begins level) s rows st = Fails Aborted
perform_by Outside Commits s rows st = Goes (note (note (ended s) (Warned NoBlock)) Committed) (lay s.overlay rows)
perform_by (InBlock of) Commits s rows st = Goes (note (ended s) Committed) (lay s.overlay rows)
perform_by Broken Commits s rows st = Goes (note (ended s) RolledBack) rows
perform_by Outside RollsBack s rows st = Goes (note (note (ended s) (Warned NoBlock)) RolledBack) rows
perform_by (InBlock of) RollsBack s rows st = Goes (note (ended s) RolledBack) rows
perform_by Broken RollsBack s rows st = Goes (note (ended s) RolledBack) rows
perform_by Outside Works s rows st = worked s rows (effect st (lay s.overlay rows))
perform_by (InBlock of) Works s rows st = worked s rows (effect st (lay s.overlay rows))
perform_by Broken Works s rows st = Fails Aborted

abbrev pub perform : Session → Rows' → Bound → Performed
perform s rows st = perform_by s.status (kind st) s rows st

abbrev pub after_fault : Status → Status
after_fault Outside = Outside
after_fault (InBlock level) = Broken
after_fault Broken = Broken
