-- The compact JSON text of an outcome, and the order of outcomes by the bytes of these texts.
use Rattle.std.specs.Prelude.{ℕ, ◌+◌, ◌/◌, ◌%◌, zero, suc, true, false, cond, ◌||◌, nat_lt, List, [], ◌∷◌, ◌++◌, codes, pos, negsuc}
use Rattle.std.specs.declared.cmp.Ordering.{Ordering}
use Rattle.std.specs.Ordering.{nat_cmp, on}
use Rattle.std.specs.Cmp.{IsTotalOrder, on_total}
use Rattle.std.specs.Cmp.Lexicographic.{slice_cmp, nat_list_cmp_total}
use Rattle.json.specs.Print.{escape_letter, quoted}
use Rattle.lock_modes.specs.declared.value.Value.{Value}
use Rattle.lock_modes.specs.declared.value.Value.TheVariants.{Int, Text}
use Rattle.events.specs.declared.event.Event.{Event}
use Rattle.events.specs.declared.event.Event.TheVariants.{Sent, Row, Rows, Inserted, Updated, Deleted, Began, Committed, RolledBack, Locked, Set, Warned, Failed, Waiting, Resumed, Done, NotSent}
use Rattle.events.specs.Numbers.{warning_number, fault_number}

-- the last so many decimal digits of a number, or all of them where there are fewer
unfoldable pub digits_in : ℕ → ℕ → List ℕ
digits_in zero n = []
digits_in (suc room) n = elim (nat_lt n 10) [ true ↦ (48 + n) ∷ [] | false ↦ digits_in room (n / 10) ++ (48 + n % 10) ∷ [] ]

-- a number in decimal, with room for all its digits
abbrev pub whole_json : ℕ → List ℕ
whole_json n = digits_in (suc n) n

-- the items of an array behind the first one, each after a comma, and the closing bracket
unfoldable pub others_json : {X : Type 0} → (X → List ℕ) → List X → List ℕ
others_json item [] = 93 ∷ []
others_json item (x ∷ xs) = 44 ∷ (item x ++ others_json item xs)

-- an array of items
abbrev pub array_json : {X : Type 0} → (X → List ℕ) → List X → List ℕ
array_json item [] = 91 ∷ 93 ∷ []
array_json item (x ∷ xs) = 91 ∷ (item x ++ others_json item xs)

-- a value of a row: a number, or a string with the shortest escapes
abbrev pub cell_json : Value → List ℕ
cell_json (Int (pos n)) = whole_json n
cell_json (Int (negsuc n)) = 45 ∷ whole_json (suc n)
cell_json (Text text) = quoted text

abbrev pub row_json : List Value → List ℕ
row_json values = codes "[\"row\"," ++ (array_json cell_json values ++ codes "]")

-- what stands before a number, and the number
abbrev pub numbered_json : List ℕ → ℕ → List ℕ
numbered_json front n = front ++ (whole_json n ++ codes "]")

abbrev pub event_json : Event → List ℕ
event_json (Sent step) = numbered_json (codes "[\"sent\",") step
event_json (Row values) = row_json values
event_json (Rows count) = numbered_json (codes "[\"rows\",") count
event_json (Inserted count) = numbered_json (codes "[\"inserted\",") count
event_json (Updated count) = numbered_json (codes "[\"updated\",") count
event_json (Deleted count) = numbered_json (codes "[\"deleted\",") count
event_json Began = codes "\"began\""
event_json Committed = codes "\"committed\""
event_json RolledBack = codes "\"rolledback\""
event_json Locked = codes "\"locked\""
event_json Set = codes "\"set\""
event_json (Warned warning) = numbered_json (codes "[\"warned\",") (warning_number warning)
event_json (Failed fault) = numbered_json (codes "[\"failed\",") (fault_number fault)
event_json Waiting = codes "\"waiting\""
event_json Resumed = codes "\"resumed\""
event_json Done = codes "\"done\""
event_json (NotSent step) = numbered_json (codes "[\"notsent\",") step

abbrev pub session_json : List Event → List ℕ
session_json events = array_json event_json events

abbrev pub outcome_json : List (List Event) → List ℕ
outcome_json sessions = array_json session_json sessions

-- the first byte of what stands in a string for a byte
abbrev pub first_written : ℕ → ℕ
first_written x = cond (nat_lt 0 (escape_letter x) || nat_lt x 32) 92 x

-- and the second, 0 where there is none
abbrev pub second_written : ℕ → ℕ
second_written x = cond (nat_lt 0 (escape_letter x)) (escape_letter x) (cond (nat_lt x 32) 117 0)

-- texts by their bytes
abbrev pub bytes_cmp : List ℕ → List ℕ → Ordering
bytes_cmp = slice_cmp nat_cmp

-- outcomes by their texts
abbrev pub outcome_cmp : List (List Event) → List (List Event) → Ordering
outcome_cmp = on outcome_json bytes_cmp

pub outcome_total : IsTotalOrder outcome_cmp
outcome_total = on_total outcome_json nat_list_cmp_total
