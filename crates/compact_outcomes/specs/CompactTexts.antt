-- The compact JSON text of an outcome, by cases of its events.
use Rattle.std.specs.Prelude.{ℕ, ◌≤◌, ◌≢◌, List, [], ◌∷◌, ◌++◌, codes, decimal, flat_map}
use Rattle.std.specs.Fmt.{signed_decimal}
use Rattle.json.specs.Print as json
use Rattle.lock_modes.specs.declared.value.Value.{Value}
use Rattle.lock_modes.specs.declared.value.Value.TheVariants.{Int, Text}
use Rattle.events.specs.declared.event.Event.{Event}
use Rattle.events.specs.declared.event.Event.TheVariants.{Sent, Row, Rows, Inserted, Updated, Deleted, Began, Committed, RolledBack, Locked, Set, Warned, Failed, Waiting, Resumed, Done, NotSent}
use Rattle.events.specs.Numbers.{warning_number, fault_number}

abbrev pub after_comma : {X : Type 0} → (X → List ℕ) → X → List ℕ
after_comma f x = codes "," ++ f x

-- the items behind the first one, each after a comma, and the closing bracket
abbrev pub others_text : {X : Type 0} → (X → List ℕ) → List X → List ℕ
others_text item xs = flat_map (after_comma item) xs ++ codes "]"

-- an array of items
abbrev pub array_text : {X : Type 0} → (X → List ℕ) → List X → List ℕ
array_text item [] = codes "[]"
array_text item (x ∷ xs) = codes "[" ++ (item x ++ others_text item xs)

-- a value of a row: a number, or a string with the shortest escapes
abbrev pub cell_text : Value → List ℕ
cell_text (Int number) = signed_decimal number
cell_text (Text text) = json.quoted text

abbrev pub row_text : List Value → List ℕ
row_text values = codes "[\"row\"," ++ (array_text cell_text values ++ codes "]")

-- what stands before a number, and the number
abbrev pub numbered_text : List ℕ → ℕ → List ℕ
numbered_text front number = front ++ (decimal number ++ codes "]")

abbrev pub event_text : Event → List ℕ
event_text (Sent step) = numbered_text (codes "[\"sent\",") step
event_text (Row values) = row_text values
event_text (Rows count) = numbered_text (codes "[\"rows\",") count
event_text (Inserted count) = numbered_text (codes "[\"inserted\",") count
event_text (Updated count) = numbered_text (codes "[\"updated\",") count
event_text (Deleted count) = numbered_text (codes "[\"deleted\",") count
event_text Began = codes "\"began\""
event_text Committed = codes "\"committed\""
event_text RolledBack = codes "\"rolledback\""
event_text Locked = codes "\"locked\""
event_text Set = codes "\"set\""
event_text (Warned warning) = numbered_text (codes "[\"warned\",") (warning_number warning)
event_text (Failed fault) = numbered_text (codes "[\"failed\",") (fault_number fault)
event_text Waiting = codes "\"waiting\""
event_text Resumed = codes "\"resumed\""
event_text Done = codes "\"done\""
event_text (NotSent step) = numbered_text (codes "[\"notsent\",") step

abbrev pub session_text : List Event → List ℕ
session_text events = array_text event_text events

-- a byte that stands for itself in a string
abbrev pub IsPlain : ℕ → Type 0
IsPlain byte = (32 ≤ byte) × (byte ≢ 34) × (byte ≢ 92)
