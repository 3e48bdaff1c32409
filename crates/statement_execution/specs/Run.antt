-- What running a statement tells, and what it leaves in the store.
use Rattle.std.specs.Prelude.{◌≡◌, ⊤, ℕ, true, List, [], ◌∷◌, Option, Some, None}
use Rattle.lock_modes.specs.RowPlace.{RowPlace}
use Rattle.lock_modes.specs.Rows.{Write}
use Rattle.events.specs.declared.event.Fault.{Fault}
use Rattle.events.specs.declared.event.Event.{Event}
use Rattle.bound_statements.specs.declared.statement.Bound.{Bound}
use Rattle.bound_statements.specs.declared.statement.Bound.TheVariants.{Select, Insert, Update, Delete, Begin, Commit, Rollback, Lock, SetVariable}
use Rattle.bound_statements.specs.Plan.{looks_at}
use Rattle.row_tables.specs.Layers.{Layers, wrote, IsOnlyWriterAt}
use Rattle.statement_evaluation.specs.Effect.{Effect, Gives, Faults}

-- what an effect tells
abbrev pub events_of : Effect → List Event
events_of (Gives events writes) = events
events_of (Faults f) = []

-- the fault of an effect, if it is one
abbrev pub fault_of : Effect → Option Fault
fault_of (Gives events writes) = None
fault_of (Faults f) = Some f

-- the session has left each of these, one after another
abbrev pub wrote_each : ℕ → List Write → Layers → Layers
wrote_each session [] l = l
wrote_each session (w ∷ ws) l = wrote_each session ws (wrote session w.place w.left l)

-- what an effect leaves
abbrev pub left_by : ℕ → Effect → Layers → Layers
left_by session (Gives events writes) l = wrote_each session writes l
left_by session (Faults f) l = l

-- no other session has written where the statement looks
abbrev pub SeesAlone : ℕ → Bound → Layers → Type 0
SeesAlone session s l = (p : RowPlace) → looks_at s p ≡ true → IsOnlyWriterAt session p l

-- the statement may look at the rows that the session sees: a select wherever others have written, and any other statement where they have not
abbrev pub MayLook : ℕ → Bound → Layers → Type 0
MayLook session (Select t key c by out lock) l = ⊤
MayLook session (Insert t key new) l = SeesAlone session (Insert t key new) l
MayLook session (Update t key sets c) l = SeesAlone session (Update t key sets c) l
MayLook session (Delete t key c) l = SeesAlone session (Delete t key c) l
MayLook session (Lock t m nowait) l = ⊤
MayLook session (Begin level) l = ⊤
MayLook session Commit l = ⊤
MayLook session Rollback l = ⊤
MayLook session SetVariable l = ⊤

-- no other session has written where these are written
abbrev pub WritesAlone : ℕ → List Write → Layers → Type 0
WritesAlone session [] l = ⊤
WritesAlone session (w ∷ ws) l = IsOnlyWriterAt session w.place l × WritesAlone session ws l
