-- The compact text of an outcome's value is written by cases of its events.
use Rattle.std.proofs.Common.{◌≡◌, refl, sym, ap, ◌∙◌, append_assoc, true, ℕ, suc, List, [], ◌∷◌, ◌++◌, map, codes, pos, negsuc, arith}
use Rattle.std.specs.Prelude.{EachIndex, flat_map, slice_index}
use Rattle.json.specs.Print.{escape_byte, escape}
use Rattle.json.proofs.Printed.Strings.{escape_byte_plain}
use Rattle.serde_json.specs.Data.{Data}
use Rattle.serde_json.specs.View.{items_of}
use Rattle.serde_json.specs.Written.{compact_text, items_text}
use Rattle.lock_modes.specs.declared.value.Value.{Value}
use Rattle.lock_modes.specs.declared.value.Value.TheVariants.{Int, Text}
use Rattle.events.specs.declared.event.Event.{Event}
use Rattle.events.specs.declared.event.Event.TheVariants.{Sent, Row, Rows, Inserted, Updated, Deleted, Began, Committed, RolledBack, Locked, Set, Warned}
use Rattle.events.specs.declared.event.Event.TheVariants.{Failed, Waiting, Resumed, Done, NotSent}
use Rattle.transcripts.specs.Json.{list, cell_data, event_data, session_data, outcome_data}
use Rattle.compact_outcomes.specs.CompactTexts.{after_comma, array_text, cell_text, event_text, session_text, IsPlain}

-- the items behind the first one
pub others-text : {X : Type 0} (enc : X → Data) (f : X → List ℕ) → ((x : X) → compact_text (enc x) ≡ f x) → (xs : List X)
    → items_text true (items_of (map enc xs)) ≡ flat_map (after_comma f) xs ++ 93 ∷ []
others-text enc f each [] = refl
others-text enc f each (x ∷ xs) =
    (λ i. 44 ∷ (each x i ++ others-text enc f each xs i)) ∙ sym (append_assoc (after_comma f x) (flat_map (after_comma f) xs) (93 ∷ []))

-- an array whose items have their texts
array-text : {X : Type 0} (enc : X → Data) (f : X → List ℕ) → ((x : X) → compact_text (enc x) ≡ f x) → (xs : List X)
    → compact_text (list (map enc xs)) ≡ array_text f xs
array-text enc f each [] = refl
array-text enc f each (x ∷ xs) = λ i. 91 ∷ (each x i ++ others-text enc f each xs i)

cell-text : (v : Value) → compact_text (cell_data v) ≡ cell_text v
cell-text (Int (pos n)) = refl
cell-text (Int (negsuc n)) = refl
cell-text (Text text) = refl

event-text : (e : Event) → compact_text (event_data e) ≡ event_text e
unfolding escape_byte
event-text (Sent step) = refl
event-text (Row values) = ap (λ t. codes "[\"row\"," ++ (t ++ codes "]")) (array-text cell_data cell_text cell-text values)
event-text (Rows count) = refl
event-text (Inserted count) = refl
event-text (Updated count) = refl
event-text (Deleted count) = refl
event-text Began = refl
event-text Committed = refl
event-text RolledBack = refl
event-text Locked = refl
event-text Set = refl
event-text (Warned warning) = refl
event-text (Failed fault) = refl
event-text Waiting = refl
event-text Resumed = refl
event-text Done = refl
event-text (NotSent step) = refl

pub told-text : (o : List (List Event)) → compact_text (outcome_data o) ≡ array_text session_text o
told-text o = array-text session_data session_text (array-text event_data event_text event-text) o

-- ---- a string

-- bytes that stand for themselves
pub plain-escape : (bytes : List ℕ) → EachIndex bytes (λ k. IsPlain (slice_index bytes k)) → escape bytes ≡ bytes
plain-escape [] plain = refl
plain-escape (x ∷ xs) plain =
    let first = plain 0 (omega arith) in
    λ i. escape_byte_plain x first.1 first.2 first.0 i ++ plain-escape xs (λ k lt. plain (suc k) (omega (arith, lt))) i
