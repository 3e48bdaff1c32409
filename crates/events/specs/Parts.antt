-- The parts of an event: its kind, the number that it tells and the row that it shows.
use Rattle.std.specs.Prelude.{ℕ, List, []}
use Rattle.lock_modes.specs.declared.value.Value.{Value}
use Rattle.events.specs.declared.event.Event.{Event}
use Rattle.events.specs.declared.event.Event.TheVariants.{Sent, Row, Rows, Inserted, Updated, Deleted, Began, Committed, RolledBack, Locked, Set, Warned, Failed, Waiting, Resumed, Done, NotSent}
use Rattle.events.specs.Numbers.{warning_number, fault_number}

-- the place of an event in the table of the format
abbrev pub kind_of : Event → ℕ
kind_of (Sent step) = 0
kind_of (Row values) = 1
kind_of (Rows count) = 2
kind_of (Inserted count) = 3
kind_of (Updated count) = 4
kind_of (Deleted count) = 5
kind_of Began = 6
kind_of Committed = 7
kind_of RolledBack = 8
kind_of Locked = 9
kind_of Set = 10
kind_of (Warned warning) = 11
kind_of (Failed fault) = 12
kind_of Waiting = 13
kind_of Resumed = 14
kind_of Done = 15
kind_of (NotSent step) = 16

-- the number that an event tells, 0 where it tells none
abbrev pub number_of : Event → ℕ
number_of (Sent step) = step
number_of (Row values) = 0
number_of (Rows count) = count
number_of (Inserted count) = count
number_of (Updated count) = count
number_of (Deleted count) = count
number_of Began = 0
number_of Committed = 0
number_of RolledBack = 0
number_of Locked = 0
number_of Set = 0
number_of (Warned warning) = warning_number warning
number_of (Failed fault) = fault_number fault
number_of Waiting = 0
number_of Resumed = 0
number_of Done = 0
number_of (NotSent step) = step

-- the row that an event shows
abbrev pub values_of : Event → List Value
values_of (Sent step) = []
values_of (Row values) = values
values_of (Rows count) = []
values_of (Inserted count) = []
values_of (Updated count) = []
values_of (Deleted count) = []
values_of Began = []
values_of Committed = []
values_of RolledBack = []
values_of Locked = []
values_of Set = []
values_of (Warned warning) = []
values_of (Failed fault) = []
values_of Waiting = []
values_of Resumed = []
values_of Done = []
values_of (NotSent step) = []
