-- The compact text of an outcome's value is the text of the format's table.
use Rattle.std.specs.Prelude.{◌≡◌, refl, ℕ, true, List, [], ◌∷◌, ◌++◌, map, codes, All, pos, negsuc}
use Rattle.std.proofs.Common.{sym, ap, ◌∙◌, arith, lit<}
use Rattle.std.proofs.lemmas.List.Elements.{All-head, All-tail}
use Rattle.serde_json.specs.Data.{Data}
use Rattle.serde_json.specs.View.{items_of}
use Rattle.serde_json.specs.Written.{compact_text, items_text}
use Rattle.json.specs.Print.{escape_byte}
use Rattle.lock_modes.specs.declared.value.Value.{Value}
use Rattle.lock_modes.specs.declared.value.Value.TheVariants.{Int, Text}
use Rattle.events.specs.declared.event.Fault.TheVariants.{Duplicate, OutOfRange, Deadlock, Aborted, Unavailable}
use Rattle.events.specs.declared.event.Warning.TheVariants.{InBlock, NoBlock}
use Rattle.events.specs.declared.event.Event.{Event}
use Rattle.events.specs.declared.event.Event.TheVariants.{Sent, Row, Rows, Inserted, Updated, Deleted, Began, Committed, RolledBack, Locked, Set, Warned}
use Rattle.events.specs.declared.event.Event.TheVariants.{Failed, Waiting, Resumed, Done, NotSent}
use Rattle.events.specs.Fits.{CellFits, EventFits}
use Rattle.transcripts.specs.Outcome.{OutcomeFits}
use Rattle.transcripts.specs.Compact.{others_json, array_json, cell_json, event_json, session_json, outcome_json}
use Rattle.transcripts.proofs.Codes.{others-nil, others-cons}
use Rattle.transcripts.proofs.Digits.{whole-decimal}
use Rattle.transcripts.proofs.EventCodes.{int-decimal}
use Rattle.transcripts.specs.Json.{list, cell_data, event_data, session_data, outcome_data}

-- the items behind the first one
others-text : {X : Type 0} (enc : X → Data) (f : X → List ℕ) (Fits : X → Type 0) → ((x : X) → Fits x → compact_text (enc x) ≡ f x)
    → (xs : List X) → All Fits xs → items_text true (items_of (map enc xs)) ≡ others_json f xs
others-text enc f Fits each [] fits = sym (others-nil f)
others-text enc f Fits each (x ∷ xs) fits =
    (λ i. 44 ∷ (each x (All-head Fits x xs fits) i ++ others-text enc f Fits each xs (All-tail Fits x xs fits) i)) ∙ sym (others-cons f x xs)

-- an array whose items have their texts
array-text : {X : Type 0} (enc : X → Data) (f : X → List ℕ) (Fits : X → Type 0) → ((x : X) → Fits x → compact_text (enc x) ≡ f x)
    → (xs : List X) → All Fits xs → compact_text (list (map enc xs)) ≡ array_json f xs
array-text enc f Fits each [] fits = refl
array-text enc f Fits each (x ∷ xs) fits =
    λ i. 91 ∷ (each x (All-head Fits x xs fits) i ++ others-text enc f Fits each xs (All-tail Fits x xs fits) i)

cell-text : (v : Value) → CellFits v → compact_text (cell_data v) ≡ cell_json v
cell-text (Int (pos n)) fits = sym (int-decimal (pos n) fits)
cell-text (Int (negsuc n)) fits = sym (int-decimal (negsuc n) fits)
cell-text (Text text) fits = refl

event-text : (e : Event) → EventFits e → compact_text (event_data e) ≡ event_json e
unfolding escape_byte
event-text (Sent step) fits = ap (λ ds. codes "[\"sent\"," ++ (ds ++ codes "]")) (sym (whole-decimal step (omega (arith, fits))))
event-text (Row values) fits = ap (λ ds. codes "[\"row\"," ++ (ds ++ codes "]")) (array-text cell_data cell_json CellFits cell-text values fits)
event-text (Rows count) fits = ap (λ ds. codes "[\"rows\"," ++ (ds ++ codes "]")) (sym (whole-decimal count fits))
event-text (Inserted count) fits = ap (λ ds. codes "[\"inserted\"," ++ (ds ++ codes "]")) (sym (whole-decimal count fits))
event-text (Updated count) fits = ap (λ ds. codes "[\"updated\"," ++ (ds ++ codes "]")) (sym (whole-decimal count fits))
event-text (Deleted count) fits = ap (λ ds. codes "[\"deleted\"," ++ (ds ++ codes "]")) (sym (whole-decimal count fits))
event-text Began fits = refl
event-text Committed fits = refl
event-text RolledBack fits = refl
event-text Locked fits = refl
event-text Set fits = refl
event-text (Warned InBlock) fits = ap (λ ds. codes "[\"warned\"," ++ (ds ++ codes "]")) (sym (whole-decimal 1 (lit< tt)))
event-text (Warned NoBlock) fits = ap (λ ds. codes "[\"warned\"," ++ (ds ++ codes "]")) (sym (whole-decimal 2 (lit< tt)))
event-text (Failed Duplicate) fits = ap (λ ds. codes "[\"failed\"," ++ (ds ++ codes "]")) (sym (whole-decimal 1 (lit< tt)))
event-text (Failed OutOfRange) fits = ap (λ ds. codes "[\"failed\"," ++ (ds ++ codes "]")) (sym (whole-decimal 2 (lit< tt)))
event-text (Failed Deadlock) fits = ap (λ ds. codes "[\"failed\"," ++ (ds ++ codes "]")) (sym (whole-decimal 3 (lit< tt)))
event-text (Failed Aborted) fits = ap (λ ds. codes "[\"failed\"," ++ (ds ++ codes "]")) (sym (whole-decimal 4 (lit< tt)))
event-text (Failed Unavailable) fits = ap (λ ds. codes "[\"failed\"," ++ (ds ++ codes "]")) (sym (whole-decimal 5 (lit< tt)))
event-text Waiting fits = refl
event-text Resumed fits = refl
event-text Done fits = refl
event-text (NotSent step) fits = ap (λ ds. codes "[\"notsent\"," ++ (ds ++ codes "]")) (sym (whole-decimal step (omega (arith, fits))))

session-text : (es : List Event) → All EventFits es → compact_text (session_data es) ≡ session_json es
session-text es fits = array-text event_data event_json EventFits event-text es fits

-- the compact text of an outcome's value
pub outcome-text : (o : List (List Event)) → OutcomeFits o → compact_text (outcome_data o) ≡ outcome_json o
outcome-text o fits = array-text session_data session_json (All EventFits) session-text o fits
