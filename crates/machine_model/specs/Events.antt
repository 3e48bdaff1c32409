-- Which events come from the effect of a statement.
use Rattle.std.specs.Prelude.{Bool, true, false}
use Rattle.events.specs.declared.event.Event.{Event}
use Rattle.events.specs.declared.event.Event.TheVariants.{Sent, Row as RowEvent, Rows, Inserted, Updated, Deleted, Began, Committed, RolledBack, Locked, Set, Warned, Failed, Waiting, Resumed, Done, NotSent}

-- a statement that reads, writes, locks a table or sets a variable tells it
abbrev pub is_effect : Event → Bool
is_effect (Sent k) = false
is_effect (RowEvent r) = true
is_effect (Rows n) = true
is_effect (Inserted n) = true
is_effect (Updated n) = true
is_effect (Deleted n) = true
is_effect Began = false
is_effect Committed = false
is_effect RolledBack = false
is_effect Locked = true
is_effect Set = true
is_effect (Warned w) = false
is_effect (Failed f) = false
is_effect Waiting = false
is_effect Resumed = false
is_effect Done = false
is_effect (NotSent k) = false
