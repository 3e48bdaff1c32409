-- What a transcript alone tells of the transactions of its session.
use Rattle.std.specs.Prelude.{Bool, true, false, cond, List, [], ◌∷◌, ◌++◌}
use Rattle.events.specs.declared.event.Event.{Event}
use Rattle.events.specs.declared.event.Event.TheVariants.{Sent, Row as RowEvent, Rows, Inserted, Updated, Deleted, Began, Committed, RolledBack, Locked, Set, Warned, Failed, Waiting, Resumed, Done, NotSent}
use Rattle.machine_model.specs.Session.{after_fault}
use Rattle.bound_statements.specs.declared.statement.Level.TheVariants.{Serializable}
use Rattle.machine_model.specs.declared.status.Status.{Status}
use Rattle.machine_model.specs.declared.status.Status.TheVariants.{Outside, InBlock, Broken}

-- the event tells of data: a row, or how many were read, inserted, updated or deleted
abbrev pub is_data : Event → Bool
is_data (Sent k) = false
is_data (RowEvent r) = true
is_data (Rows n) = true
is_data (Inserted n) = true
is_data (Updated n) = true
is_data (Deleted n) = true
is_data Began = false
is_data Committed = false
is_data RolledBack = false
is_data Locked = false
is_data Set = false
is_data (Warned w) = false
is_data (Failed f) = false
is_data Waiting = false
is_data Resumed = false
is_data Done = false
is_data (NotSent k) = false

-- of these events those that tell of data
abbrev pub data_of : List Event → List Event
data_of [] = []
data_of (e ∷ es) = cond (is_data e) (e ∷ data_of es) (data_of es)

-- a transaction that ended: whether it was committed, and its data events
pub record Closed : Type 0 where
  pub is_committed : Bool
  pub events : List Event

-- where a session stands: its status, with a block of whatever level as one at SERIALIZABLE, since no level is told; the data events of its open transaction, and what ended, in order
pub record Reading : Type 0 where
  pub status : Status
  pub pending : List Event
  pub ended : List Closed

-- nothing was told yet
abbrev pub nothing_read : Reading
nothing_read = record { status = Outside; pending = []; ended = [] }

-- the transaction of these data events, if there are any
abbrev pub closed_with : Bool → List Event → List Closed
closed_with committed [] = []
closed_with committed (e ∷ es) = record { is_committed = committed; events = e ∷ es } ∷ []

-- what is open ends so, and leaves this status
abbrev pub ends : Bool → Status → Reading → Reading
ends committed status x = record { status = status; pending = []; ended = x.ended ++ closed_with committed x.pending }

-- the end of a step ends a transaction that no block holds open
abbrev pub step_ends : Status → Reading → Reading
step_ends Outside x = ends true Outside x
step_ends (InBlock of) x = x
step_ends Broken x = x

-- a data event is one of the open transaction
abbrev pub opens : Event → Reading → Reading
opens e x = record { status = x.status; pending = x.pending ++ e ∷ []; ended = x.ended }

-- where the session stands after one more event
abbrev pub read_one : Reading → Event → Reading
read_one x (Sent k) = x
read_one x (RowEvent r) = opens (RowEvent r) x
read_one x (Rows n) = opens (Rows n) x
read_one x (Inserted n) = opens (Inserted n) x
read_one x (Updated n) = opens (Updated n) x
read_one x (Deleted n) = opens (Deleted n) x
read_one x Began = record { status = InBlock Serializable; pending = x.pending; ended = x.ended }
read_one x Committed = ends true Outside x
read_one x RolledBack = ends false Outside x
read_one x Locked = x
read_one x Set = x
read_one x (Warned w) = x
read_one x (Failed f) = ends false (after_fault x.status) x
read_one x Waiting = x
read_one x Resumed = x
read_one x Done = step_ends x.status x
read_one x (NotSent k) = x

-- where it stands after these events, one after another
abbrev pub read : Reading → List Event → Reading
read x [] = x
read x (e ∷ es) = read (read_one x e) es

-- the data events of what ended, one transaction after another
abbrev pub closed_events : List Closed → List Event
closed_events [] = []
closed_events (x ∷ xs) = x.events ++ closed_events xs

-- the data events of what ended, and then of what is open
abbrev pub told_in : Reading → List Event
told_in x = closed_events x.ended ++ x.pending
