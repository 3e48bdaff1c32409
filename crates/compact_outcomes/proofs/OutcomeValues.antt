-- The JSON value of an outcome tells the outcome.
use Rattle.std.proofs.Common.{◌≡◌, refl, sym, ap, ◌∙◌, ℕ, cond, List, [], ◌∷◌, map, codes, bytes_eq, pos, negsuc, Option, Some, None}
use Rattle.serde_json.specs.Data.{unsigned, negative, Data, number, string, array, Items, no_items, item}
use Rattle.serde_json.specs.View.{items_of}
use Rattle.lock_modes.specs.declared.value.Value.{Value}
use Rattle.lock_modes.specs.declared.value.Value.TheVariants.{Int, Text}
use Rattle.events.specs.declared.event.Fault.TheVariants.{Duplicate, OutOfRange, Deadlock, Aborted, Unavailable}
use Rattle.events.specs.declared.event.Warning.TheVariants.{InBlock, NoBlock}
use Rattle.events.specs.declared.event.Event.{Event}
use Rattle.events.specs.declared.event.Event.TheVariants.{Sent, Row, Rows, Inserted, Updated, Deleted, Began, Committed, RolledBack, Locked, Set, Warned}
use Rattle.events.specs.declared.event.Event.TheVariants.{Failed, Waiting, Resumed, Done, NotSent}
use Rattle.transcripts.specs.Json.{cell_data, event_data, session_data, outcome_data}
use Rattle.transcripts.specs.JsonReading.{word_event}

-- ---- what a value tells, with nothing asked of its numbers

abbrev list_of : {X : Type 0} → (Data → X) → Items → List X
list_of f no_items = []
list_of f (item d ds) = f d ∷ list_of f ds

abbrev items_in : {X : Type 0} → (Data → X) → Data → List X
items_in f (array ds) = list_of f ds
items_in f d = []

abbrev nat_in : Data → ℕ
nat_in (number (unsigned n)) = n
nat_in d = 0

abbrev cell_of : Data → Value
cell_of (number (unsigned n)) = Int (pos n)
cell_of (number (negative z)) = Int z
cell_of (string s) = Text s
cell_of d = Text []

abbrev or_done : Option Event → Event
or_done None = Done
or_done (Some e) = e

abbrev tagged_of : List ℕ → Data → Event
tagged_of w d =
    cond (bytes_eq w (codes "sent")) (Sent (nat_in d)) (cond (bytes_eq w (codes "row")) (Row (items_in cell_of d)) (cond (bytes_eq w (codes "rows"))
    (Rows (nat_in d))
    (cond (bytes_eq w (codes "inserted")) (Inserted (nat_in d)) (cond (bytes_eq w (codes "updated")) (Updated (nat_in d)) (cond (bytes_eq w
    (codes "deleted")) (Deleted (nat_in d))
    (cond (bytes_eq w (codes "warned")) (Warned (cond (bytes_eq (nat_in d ∷ []) (1 ∷ [])) InBlock NoBlock))
    (cond (bytes_eq w (codes "failed")) (Failed (cond (bytes_eq (nat_in d ∷ []) (1 ∷ [])) Duplicate (cond (bytes_eq (nat_in d ∷ [])
    (2 ∷ [])) OutOfRange (cond (bytes_eq (nat_in d ∷ []) (3 ∷ [])) Deadlock
    (cond (bytes_eq (nat_in d ∷ []) (4 ∷ [])) Aborted Unavailable)))))
    (NotSent (nat_in d)))))))))

abbrev event_of : Data → Event
event_of (string w) = or_done (word_event w)
event_of (array (item (string w) (item d no_items))) = tagged_of w d
event_of d = Done

list-back : {X : Type 0} (f : Data → X) (enc : X → Data) → ((x : X) → f (enc x) ≡ x) → (xs : List X) → list_of f (items_of (map enc xs)) ≡ xs
list-back f enc back [] = refl
list-back f enc back (x ∷ xs) = λ i. back x i ∷ list-back f enc back xs i

cell-back : (v : Value) → cell_of (cell_data v) ≡ v
cell-back (Int (pos n)) = refl
cell-back (Int (negsuc n)) = refl
cell-back (Text s) = refl

event-back : (e : Event) → event_of (event_data e) ≡ e
event-back (Sent n) = refl
event-back (Row vs) = ap Row (list-back cell_of cell_data cell-back vs)
event-back (Rows n) = refl
event-back (Inserted n) = refl
event-back (Updated n) = refl
event-back (Deleted n) = refl
event-back Began = refl
event-back Committed = refl
event-back RolledBack = refl
event-back Locked = refl
event-back Set = refl
event-back (Warned InBlock) = refl
event-back (Warned NoBlock) = refl
event-back (Failed Duplicate) = refl
event-back (Failed OutOfRange) = refl
event-back (Failed Deadlock) = refl
event-back (Failed Aborted) = refl
event-back (Failed Unavailable) = refl
event-back Waiting = refl
event-back Resumed = refl
event-back Done = refl
event-back (NotSent n) = refl

told-back : (o : List (List Event)) → items_in (items_in event_of) (outcome_data o) ≡ o
told-back o = list-back (items_in event_of) session_data (list-back event_of event_data event-back) o

-- outcomes with one value are one
pub told-one : (a b : List (List Event)) → outcome_data a ≡ outcome_data b → a ≡ b
told-one a b e = sym (told-back a) ∙ ap (items_in (items_in event_of)) e ∙ told-back b
