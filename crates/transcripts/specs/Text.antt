-- The text of an outcome: a line for each session, and one for each of its events.
use Rattle.std.specs.Prelude.{ℕ, List, [], ◌∷◌, ◌++◌, ◌==◌, if◌then◌else◌, codes, decimal, flat_map, get_or, zip}
use Rattle.std.specs.List.{join_by}
use Rattle.std.specs.Fmt.{signed_decimal}
use Rattle.lock_modes.specs.declared.value.Value.{Value}
use Rattle.lock_modes.specs.declared.value.Value.TheVariants.{Int, Text}
use Rattle.events.specs.declared.event.Fault.{Fault}
use Rattle.events.specs.declared.event.Fault.TheVariants.{Duplicate, OutOfRange, Deadlock, Aborted, Unavailable}
use Rattle.events.specs.declared.event.Warning.{Warning}
use Rattle.events.specs.declared.event.Warning.TheVariants.{InBlock, NoBlock}
use Rattle.events.specs.declared.event.Event.{Event}
use Rattle.events.specs.declared.event.Event.TheVariants.{Sent, Row, Rows, Inserted, Updated, Deleted, Began, Committed, RolledBack, Locked, Set, Warned, Failed, Waiting, Resumed, Done, NotSent}

-- a byte of a text: a quote, which is 39, stands twice
abbrev pub doubled : ℕ → List ℕ
doubled byte = if byte == 39 then 39 ∷ 39 ∷ [] else byte ∷ []

-- a text in single quotes
abbrev pub quoted : List ℕ → List ℕ
quoted text = codes "'" ++ flat_map doubled text ++ codes "'"

-- a number in decimal, a text in quotes
abbrev pub value_text : Value → List ℕ
value_text (Int number) = signed_decimal number
value_text (Text text) = quoted text

-- a value after a bar
abbrev pub barred : Value → List ℕ
barred value = codes "|" ++ value_text value

-- the values of a row, with a bar between each two
abbrev pub row_text : List Value → List ℕ
row_text values = codes "row " ++ join_by value_text (codes "|") values

abbrev pub warning_text : Warning → List ℕ
warning_text InBlock = codes "warning: already in a transaction block"
warning_text NoBlock = codes "warning: no transaction block"

abbrev pub fault_text : Fault → List ℕ
fault_text Duplicate = codes "error: duplicate key"
fault_text OutOfRange = codes "error: integer out of range"
fault_text Deadlock = codes "error: deadlock"
fault_text Aborted = codes "error: transaction is aborted"
fault_text Unavailable = codes "error: lock not available"

-- an event in words, where these are the names of the steps
abbrev pub event_text : List (List ℕ) → Event → List ℕ
event_text steps (Sent step) = codes "step " ++ get_or steps step []
event_text steps (Row values) = row_text values
event_text steps (Rows count) = codes "rows " ++ decimal count
event_text steps (Inserted count) = codes "inserted " ++ decimal count
event_text steps (Updated count) = codes "updated " ++ decimal count
event_text steps (Deleted count) = codes "deleted " ++ decimal count
event_text steps Began = codes "begun"
event_text steps Committed = codes "committed"
event_text steps RolledBack = codes "rolled back"
event_text steps Locked = codes "locked"
event_text steps Set = codes "set"
event_text steps (Warned warning) = warning_text warning
event_text steps (Failed fault) = fault_text fault
event_text steps Waiting = codes "waiting"
event_text steps Resumed = codes "resumed"
event_text steps Done = codes "done"
event_text steps (NotSent step) = codes "not sent " ++ get_or steps step []

-- an event's line, after two spaces
abbrev pub event_line : List (List ℕ) → Event → List ℕ
event_line steps event = codes "  " ++ event_text steps event ++ codes "\n"

-- a session, by its name and its events: a line of its own, and the lines of the events
abbrev pub session_text : List (List ℕ) → List ℕ × List Event → List ℕ
session_text steps session = codes "session " ++ session.0 ++ codes "\n" ++ flat_map (event_line steps) session.1

-- the sessions in order
abbrev pub outcome_text : List (List ℕ) → List (List ℕ) → List (List Event) → List ℕ
outcome_text sessions steps outcome = flat_map (session_text steps) (zip sessions outcome)

-- the line that tells a rank
abbrev pub rank_text : ℕ → List ℕ
rank_text rank = codes "rank " ++ decimal rank ++ codes "\n"
