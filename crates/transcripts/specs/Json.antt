-- The JSON value of an outcome: an array of sessions, and each an array with a value for each event.
use Rattle.std.specs.Prelude.{ℕ, List, [], ◌∷◌, map, codes}
use Rattle.serde_json.specs.Data.{Data, number, string, array, unsigned}
use Rattle.serde_json.specs.Find.{of_integer}
use Rattle.serde_json.specs.View.{items_of}
use Rattle.lock_modes.specs.declared.value.Value.{Value}
use Rattle.lock_modes.specs.declared.value.Value.TheVariants.{Int, Text}
use Rattle.events.specs.declared.event.Event.{Event}
use Rattle.events.specs.declared.event.Event.TheVariants.{Sent, Row, Rows, Inserted, Updated, Deleted, Began, Committed, RolledBack, Locked, Set, Warned, Failed, Waiting, Resumed, Done, NotSent}
use Rattle.events.specs.Numbers.{warning_number, fault_number}

abbrev pub list : List Data → Data
list ds = array (items_of ds)

abbrev pub whole : ℕ → Data
whole n = number (unsigned n)

-- a word, and what it is said of
abbrev pub tagged : List ℕ → Data → Data
tagged word d = list (string word ∷ d ∷ [])

-- a value of a row: a number or a string
abbrev pub cell_data : Value → Data
cell_data (Int z) = number (of_integer z)
cell_data (Text text) = string text

abbrev pub event_data : Event → Data
event_data (Sent step) = tagged (codes "sent") (whole step)
event_data (Row values) = tagged (codes "row") (list (map cell_data values))
event_data (Rows count) = tagged (codes "rows") (whole count)
event_data (Inserted count) = tagged (codes "inserted") (whole count)
event_data (Updated count) = tagged (codes "updated") (whole count)
event_data (Deleted count) = tagged (codes "deleted") (whole count)
event_data Began = string (codes "began")
event_data Committed = string (codes "committed")
event_data RolledBack = string (codes "rolledback")
event_data Locked = string (codes "locked")
event_data Set = string (codes "set")
event_data (Warned warning) = tagged (codes "warned") (whole (warning_number warning))
event_data (Failed fault) = tagged (codes "failed") (whole (fault_number fault))
event_data Waiting = string (codes "waiting")
event_data Resumed = string (codes "resumed")
event_data Done = string (codes "done")
event_data (NotSent step) = tagged (codes "notsent") (whole step)

abbrev pub session_data : List Event → Data
session_data events = list (map event_data events)

abbrev pub outcome_data : List (List Event) → Data
outcome_data sessions = list (map session_data sessions)
