-- What holds of each event: its numbers have their widths, and the step that it names is one of so many.
use Rattle.std.specs.Prelude.{ℕ, ◌<◌, ◌^◌, All, ⊤, FitsSigned}
use Rattle.std.specs.Int.{w64}
use Rattle.lock_modes.specs.declared.value.Value.{Value}
use Rattle.lock_modes.specs.declared.value.Value.TheVariants.{Int, Text}
use Rattle.events.specs.declared.event.Event.{Event}
use Rattle.events.specs.declared.event.Event.TheVariants.{Sent, Row, Rows, Inserted, Updated, Deleted, Began, Committed, RolledBack, Locked, Set, Warned, Failed, Waiting, Resumed, Done, NotSent}

-- whole numbers of a row have 64 bits
abbrev pub CellFits : Value → Type 0
CellFits (Int z) = FitsSigned w64 z
CellFits (Text text) = ⊤

-- a step's number has 8 bits, and a count 64
abbrev pub EventFits : Event → Type 0
EventFits (Sent step) = step < 256
EventFits (Row values) = All CellFits values
EventFits (Rows count) = count < 2 ^ 64
EventFits (Inserted count) = count < 2 ^ 64
EventFits (Updated count) = count < 2 ^ 64
EventFits (Deleted count) = count < 2 ^ 64
EventFits Began = ⊤
EventFits Committed = ⊤
EventFits RolledBack = ⊤
EventFits Locked = ⊤
EventFits Set = ⊤
EventFits (Warned warning) = ⊤
EventFits (Failed fault) = ⊤
EventFits Waiting = ⊤
EventFits Resumed = ⊤
EventFits Done = ⊤
EventFits (NotSent step) = step < 256

-- the step that the event names is one of these many
abbrev pub HasStep : ℕ → Event → Type 0
HasStep count (Sent step) = step < count
HasStep count (NotSent step) = step < count
HasStep count (Row values) = ⊤
HasStep count (Rows rows) = ⊤
HasStep count (Inserted rows) = ⊤
HasStep count (Updated rows) = ⊤
HasStep count (Deleted rows) = ⊤
HasStep count Began = ⊤
HasStep count Committed = ⊤
HasStep count RolledBack = ⊤
HasStep count Locked = ⊤
HasStep count Set = ⊤
HasStep count (Warned warning) = ⊤
HasStep count (Failed fault) = ⊤
HasStep count Waiting = ⊤
HasStep count Resumed = ⊤
HasStep count Done = ⊤
