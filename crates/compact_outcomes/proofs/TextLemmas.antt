-- The compact text of an outcome reads as its value.
use Rattle.std.proofs.Common.{◌≡◌, refl, sym, ap, ◌∙◌, subst, suc, ◌^◌, ◌<◌, ◌≤◌, max, pos, negsuc, List, [], ◌∷◌, map}
use Rattle.std.proofs.Common.{Some, None, Ok, Err, Option, append-nil, arith}
use Rattle.std.specs.Prelude.{⊤, All, IsUtf8, option_map, option_and_then, unwrap_or}
use Rattle.std.proofs.lemmas.List.Elements.{All-head, All-tail}
use Rattle.json.specs.Json as json
use Rattle.json.specs.Lex.{tokens}
use Rattle.json.specs.Tree as tree
use Rattle.json.proofs.Printed.Decimals.{IsNumber-decimal, IsNumber-signed_decimal}
use Rattle.json.proofs.Printed.Tokens.{tokens-print}
use Rattle.json.proofs.Printed.Trees.{value-json_tokens, ArePrintable-json_tokens}
use Rattle.serde_json.specs.Data as value
use Rattle.serde_json.specs.View.{items_of}
use Rattle.serde_json.specs.Read.{read, max_depth, of_json, of_items}
use Rattle.serde_json.specs.Written.{compact_text, outline, items_outline, members_outline}
use Rattle.serde_json.proofs.Numbers.{number_of-decimal, number_of-negative}
use Rattle.serde_json.proofs.Texts.{print-outline}
use Rattle.lock_modes.specs.declared.value.Value.{Value}
use Rattle.lock_modes.specs.declared.value.Value.TheVariants.{Int, Text}
use Rattle.transcripts.specs.declared.error.ValueError.TheVariants.{BadField}
use Rattle.events.specs.declared.event.Fault.TheVariants.{Duplicate, OutOfRange, Deadlock, Aborted, Unavailable}
use Rattle.events.specs.declared.event.Warning.TheVariants.{InBlock, NoBlock}
use Rattle.events.specs.declared.event.Event.{Event}
use Rattle.events.specs.declared.event.Event.TheVariants.{Sent, Row, Rows, Inserted, Updated, Deleted, Began, Committed, RolledBack, Locked, Set, Warned}
use Rattle.events.specs.declared.event.Event.TheVariants.{Failed, Waiting, Resumed, Done, NotSent}
use Rattle.transcripts.specs.Compact.{outcome_json}
use Rattle.transcripts.specs.Json.{cell_data, event_data, session_data, outcome_data}
use Rattle.transcripts.specs.JsonReading.{outcome_in}
use Rattle.events.specs.Fits.{CellFits, EventFits}
use Rattle.transcripts.specs.Outcome.{OutcomeFits}
use Rattle.transcripts.proofs.CompactText.{outcome-text}
use Rattle.transcripts.proofs.JsonLaws.{stands, stands_for_none}
use Rattle.compact_outcomes.specs.Told.{told_in, IsCompactOutcome}
use Rattle.compact_outcomes.proofs.DataLemmas.{told-deep}
use Rattle.compact_outcomes.proofs.OutcomeValues.{told-one}

-- ---- values

abbrev NumFits : value.Num → Type 0
NumFits (value.unsigned n) = n < 2 ^ 64
NumFits (value.negative (pos n)) = ⊥
NumFits (value.negative (negsuc n)) = n < 2 ^ 63
NumFits (value.float x) = ⊥

-- no object, no float, and numbers of 64 bits
abbrev mutual
  pub IsPlain : value.Data → Type 0
  IsPlain value.null = ⊤
  IsPlain (value.boolean b) = ⊤
  IsPlain (value.number n) = NumFits n
  IsPlain (value.string s) = ⊤
  IsPlain (value.array ds) = ArePlain ds
  IsPlain (value.object ms) = ⊥

  pub ArePlain : value.Items → Type 0
  ArePlain value.no_items = ⊤
  ArePlain (value.item d ds) = IsPlain d × ArePlain ds

mutual
  pub of-outline : (d : value.Data) → IsPlain d → of_json (outline d) ≡ Some d
  of-outline value.null h = refl
  of-outline (value.boolean b) h = refl
  of-outline (value.number (value.unsigned n)) h = ap (option_map value.number) (number_of-decimal n h)
  of-outline (value.number (value.negative (pos n))) h = absurd h
  of-outline (value.number (value.negative (negsuc n))) h = ap (option_map value.number) (number_of-negative n h)
  of-outline (value.number (value.float x)) h = absurd h
  of-outline (value.string s) h = refl
  of-outline (value.array ds) h = ap (option_map value.array) (of-items ds h)
  of-outline (value.object ms) h = absurd h

  of-items : (ds : value.Items) → ArePlain ds → of_items (items_outline ds) ≡ Some ds
  of-items value.no_items h = refl
  of-items (value.item d ds) h = λ i. option_and_then (λ e. option_map (value.item e) (of-items ds h.1 i)) (of-outline d h.0 i)

mutual
  pub has-numbers : (d : value.Data) → IsPlain d → tree.HasNumbers (outline d)
  has-numbers value.null h = tt
  has-numbers (value.boolean b) h = tt
  has-numbers (value.number (value.unsigned n)) h = IsNumber-decimal n h
  has-numbers (value.number (value.negative (pos n))) h = absurd h
  has-numbers (value.number (value.negative (negsuc n))) h = IsNumber-signed_decimal (negsuc n) h
  has-numbers (value.number (value.float x)) h = absurd h
  has-numbers (value.string s) h = tt
  has-numbers (value.array ds) h = items-numbers ds h
  has-numbers (value.object ms) h = absurd h

  items-numbers : (ds : value.Items) → ArePlain ds → tree.ItemsHaveNumbers (items_outline ds)
  items-numbers value.no_items h = tt
  items-numbers (value.item d ds) h = (has-numbers d h.0, items-numbers ds h.1)

-- what is told is no deeper than the value
mutual
  pub deep-outline : (d : value.Data) → tree.depth (outline d) ≡ value.depth d
  deep-outline value.null = refl
  deep-outline (value.boolean b) = refl
  deep-outline (value.number n) = refl
  deep-outline (value.string s) = refl
  deep-outline (value.array ds) = ap suc (deep-items ds)
  deep-outline (value.object ms) = ap suc (deep-members ms)

  deep-items : (ds : value.Items) → tree.items_depth (items_outline ds) ≡ value.items_depth ds
  deep-items value.no_items = refl
  deep-items (value.item d ds) = λ i. max (deep-outline d i) (deep-items ds i)

  deep-members : (ms : value.Members) → tree.members_depth (members_outline ms) ≡ value.members_depth ms
  deep-members value.no_members = refl
  deep-members (value.member k d ms) = λ i. max (deep-outline d i) (deep-members ms i)

-- ---- the values of outcomes

pub items-plain : {X : Type 0} (enc : X → value.Data) (Fits : X → Type 0) → ((x : X) → Fits x → IsPlain (enc x)) → (xs : List X) → All Fits xs
    → ArePlain (items_of (map enc xs))
items-plain enc Fits each [] h = tt
items-plain enc Fits each (x ∷ xs) h = (each x (All-head Fits x xs h), items-plain enc Fits each xs (All-tail Fits x xs h))

cell-plain : (v : Value) → CellFits v → IsPlain (cell_data v)
cell-plain (Int (pos n)) fits = omega (arith, fits)
cell-plain (Int (negsuc n)) fits = omega (arith, fits)
cell-plain (Text text) fits = tt

event-plain : (e : Event) → EventFits e → IsPlain (event_data e)
event-plain (Sent step) fits = (tt, (omega (arith, fits), tt))
event-plain (Row values) fits = (tt, (items-plain cell_data CellFits cell-plain values fits, tt))
event-plain (Rows count) fits = (tt, (fits, tt))
event-plain (Inserted count) fits = (tt, (fits, tt))
event-plain (Updated count) fits = (tt, (fits, tt))
event-plain (Deleted count) fits = (tt, (fits, tt))
event-plain Began fits = tt
event-plain Committed fits = tt
event-plain RolledBack fits = tt
event-plain Locked fits = tt
event-plain Set fits = tt
event-plain (Warned InBlock) fits = (tt, (omega arith, tt))
event-plain (Warned NoBlock) fits = (tt, (omega arith, tt))
event-plain (Failed Duplicate) fits = (tt, (omega arith, tt))
event-plain (Failed OutOfRange) fits = (tt, (omega arith, tt))
event-plain (Failed Deadlock) fits = (tt, (omega arith, tt))
event-plain (Failed Aborted) fits = (tt, (omega arith, tt))
event-plain (Failed Unavailable) fits = (tt, (omega arith, tt))
event-plain Waiting fits = tt
event-plain Resumed fits = tt
event-plain Done fits = tt
event-plain (NotSent step) fits = (tt, (omega (arith, fits), tt))

session-plain : (es : List Event) → All EventFits es → IsPlain (session_data es)
session-plain es fits = items-plain event_data EventFits event-plain es fits

pub told-plain : (o : List (List Event)) → OutcomeFits o → IsPlain (outcome_data o)
told-plain o fits = items-plain session_data (All EventFits) session-plain o fits

-- ---- the text of an outcome

-- the compact text of a value
read-compact : (d : value.Data) → IsPlain d → value.depth d ≤ max_depth → read (compact_text d) ≡ Some d
read-compact d plain shallow =
    let ts = tree.json_tokens (outline d) in
    let same = ap tokens (sym (print-outline d)) ∙ tokens-print ts (ArePrintable-json_tokens (outline d) (has-numbers d plain)) in
    let low : tree.depth (outline d) ≤ max_depth = subst (λ n. n ≤ max_depth) (sym (deep-outline d)) shallow in
    ap (option_and_then of_json)
    (ap (option_and_then (λ p. json.if_last p.0 p.1))
    (ap (json.value max_depth) (same ∙ sym (append-nil ts)) ∙ value-json_tokens (outline d) max_depth [] low))
    ∙ of-outline d plain

-- the text of an outcome is read as its value
pub outcome-read : (o : List (List Event)) → OutcomeFits o → read (outcome_json o) ≡ Some (outcome_data o)
outcome-read o fits =
    let deep = told-deep o in
    ap read (sym (outcome-text o fits)) ∙ read-compact (outcome_data o) (told-plain o fits) (omega (arith, deep))

-- which tells it
value-told : (o : List (List Event)) → OutcomeFits o → outcome_in (outcome_data o) ≡ Some o
value-told o fits = on (outcome_in (outcome_data o)) (refl)
  where
    on : (r : Option (List (List Event))) → outcome_in (outcome_data o) ≡ r → r ≡ Some o
    on None e = absurd (stands_for_none (Err BadField) (outcome_data o) e refl o fits refl)
    on (Some x) e = ap Some (told-one x o (stands (Ok x) (outcome_data o) e))

-- so the text tells it
pub text-told : (o : List (List Event)) → OutcomeFits o → told_in (outcome_json o) ≡ o
unfolding told_in
text-told o fits =
    ap (λ r. unwrap_or (option_and_then outcome_in r) []) (outcome-read o fits) ∙ ap (λ r. unwrap_or r []) (value-told o fits)

pub text-is : (o : List (List Event)) → OutcomeFits o → IsUtf8 (outcome_json o) → IsCompactOutcome (outcome_json o)
text-is o fits utf8 = record {
  fits = subst OutcomeFits (sym (text-told o fits)) fits;
  compact = ap outcome_json (text-told o fits);
  utf8 = utf8;
}

-- which tells no other outcome
pub json-one : (a b : List (List Event)) → OutcomeFits a → OutcomeFits b → outcome_json a ≡ outcome_json b → a ≡ b
json-one a b fits other same = sym (text-told a fits) ∙ ap told_in same ∙ text-told b other
