-- Reading an outcome's JSON value, one part after another.
use Rattle.std.specs.Prelude.{◌≡◌, ℕ, ◌^◌, ◌==◌, nat_lt, int_lt, List, [], ◌∷◌, codes, Option, Some, None, option_map, option_and_then, Result, Ok, Err, ⊤, if◌then◌else◌, bytes_eq, pos, ℤ}
use Rattle.serde_json.specs.Data.{Num, unsigned, negative, float, Data, null, boolean, number, string, array, object, Items, no_items, item}
use Rattle.serde_json.specs.Find.{as_array, as_str}
use Rattle.lock_modes.specs.declared.value.Value.{Value}
use Rattle.lock_modes.specs.declared.value.Value.TheVariants.{Int, Text}
use Rattle.events.specs.declared.event.Fault.{Fault}
use Rattle.events.specs.declared.event.Fault.TheVariants.{Duplicate, OutOfRange, Deadlock, Aborted, Unavailable}
use Rattle.events.specs.declared.event.Warning.{Warning}
use Rattle.events.specs.declared.event.Warning.TheVariants.{InBlock, NoBlock}
use Rattle.events.specs.declared.event.Event.{Event}
use Rattle.events.specs.declared.event.Event.TheVariants.{Sent, Row, Rows, Inserted, Updated, Deleted, Began, Committed, RolledBack, Locked, Set, Warned, Failed, Waiting, Resumed, Done, NotSent}
use Rattle.transcripts.specs.declared.error.ValueError.{ValueError}
use Rattle.transcripts.specs.declared.error.ValueError.TheVariants.{BadField, NoMemory}

-- what each item gives, where each gives something
abbrev pub consed : {X : Type 0} → Option X → Option (List X) → Option (List X)
consed None o = None
consed (Some x) None = None
consed (Some x) (Some xs) = Some (x ∷ xs)

abbrev pub each_in : {X : Type 0} → (Data → Option X) → Items → Option (List X)
each_in f no_items = Some []
each_in f (item d ds) = consed (f d) (each_in f ds)

-- what each item of an array gives
abbrev pub list_in : {X : Type 0} → (Data → Option X) → Data → Option (List X)
list_in f d = option_and_then (each_in f) (as_array d)

abbrev pub count_of_number : Num → Option ℕ
count_of_number (unsigned n) = Some n
count_of_number (negative z) = None
count_of_number (float x) = None

abbrev pub count_in : Data → Option ℕ
count_in null = None
count_in (boolean b) = None
count_in (number n) = count_of_number n
count_in (string s) = None
count_in (array ds) = None
count_in (object ms) = None

abbrev pub step_in : Data → Option ℕ
step_in d = option_and_then (λ n. if nat_lt n 256 then Some n else None) (count_in d)

abbrev pub integer_of_number : Num → Option ℤ
integer_of_number (unsigned n) = if nat_lt n (2 ^ 63) then Some (pos n) else None
integer_of_number (negative z) = if int_lt z (pos 0) then Some z else None
integer_of_number (float x) = None

abbrev pub cell_in : Data → Option Value
cell_in null = None
cell_in (boolean b) = None
cell_in (number n) = option_map Int (integer_of_number n)
cell_in (string s) = Some (Text s)
cell_in (array ds) = None
cell_in (object ms) = None

abbrev pub warning_of : ℕ → Option Warning
warning_of n = if n == 1 then Some InBlock else if n == 2 then Some NoBlock else None

abbrev pub fault_of : ℕ → Option Fault
fault_of n = if n == 1 then Some Duplicate else if n == 2 then Some OutOfRange else if n == 3 then Some Deadlock else if n == 4 then Some Aborted
    else if n == 5 then Some Unavailable else None

abbrev pub word_event : List ℕ → Option Event
word_event w =
    if bytes_eq w (codes "began") then Some Began
    else if bytes_eq w (codes "committed") then Some Committed
    else if bytes_eq w (codes "rolledback") then Some RolledBack
    else if bytes_eq w (codes "locked") then Some Locked
    else if bytes_eq w (codes "set") then Some Set
    else if bytes_eq w (codes "waiting") then Some Waiting
    else if bytes_eq w (codes "resumed") then Some Resumed
    else if bytes_eq w (codes "done") then Some Done
    else None

-- a word that is said of a number
abbrev pub numbered_event : List ℕ → Data → Option Event
numbered_event w d =
    if bytes_eq w (codes "sent") then option_map Sent (step_in d)
    else if bytes_eq w (codes "rows") then option_map Rows (count_in d)
    else if bytes_eq w (codes "inserted") then option_map Inserted (count_in d)
    else if bytes_eq w (codes "updated") then option_map Updated (count_in d)
    else if bytes_eq w (codes "deleted") then option_map Deleted (count_in d)
    else if bytes_eq w (codes "warned") then option_map Warned (option_and_then warning_of (count_in d))
    else if bytes_eq w (codes "failed") then option_map Failed (option_and_then fault_of (count_in d))
    else if bytes_eq w (codes "notsent") then option_map NotSent (step_in d)
    else None

-- a word, and what it is said of
abbrev pub tagged_event : List ℕ → Data → Option Event
tagged_event w d = if bytes_eq w (codes "row") then option_map Row (list_in cell_in d) else numbered_event w d

abbrev pub tagged_by : Option (List ℕ) → Data → Option Event
tagged_by None d = None
tagged_by (Some w) d = tagged_event w d

-- two items
abbrev pub pair_event : Items → Option Event
pair_event (item t (item d no_items)) = tagged_by (as_str t) d
pair_event ds = None

abbrev pub event_in : Data → Option Event
event_in null = None
event_in (boolean b) = None
event_in (number n) = None
event_in (string w) = word_event w
event_in (array ds) = pair_event ds
event_in (object ms) = None

abbrev pub outcome_in : Data → Option (List (List Event))
outcome_in d = list_in (list_in event_in) d

-- A function reads what is read, unless memory ran out.
abbrev pub Reads : {X Y : Type 0} → (X → Y) → Result X ValueError → Option Y → Type 0
Reads seen (Ok x) o = o ≡ Some (seen x)
Reads seen (Err BadField) o = o ≡ None
Reads seen (Err NoMemory) o = ⊤
