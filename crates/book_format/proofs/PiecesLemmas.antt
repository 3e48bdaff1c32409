-- A book's text is the pieces in which it is written.
use Rattle.std.proofs.Common.{◌≡◌, refl, sym, ap, ◌∙◌, ℕ, ◌-◌, false, List, [], ◌∷◌, ◌++◌, map, codes, append_assoc}
use Rattle.std.specs.Prelude.{decimal, flat_map, string_bytes}
use Rattle.std.specs.Fmt.{digits}
use Rattle.std.specs.List.{join_by}
use Rattle.json.specs.Print.{quoted, escape_byte}
use Rattle.serde_json.specs.Data.{Data, string}
use Rattle.serde_json.specs.View.{items_of}
use Rattle.serde_json.specs.Written.{compact_text, items_text}
use Rattle.transcripts.specs.Json.{list, whole, outcome_data}
use Rattle.fact_books.specs.declared.run.Run.{Run}
use Rattle.fact_books.specs.declared.run.Tag.{Tag}
use Rattle.fact_books.specs.declared.run.Tag.TheVariants.{Ran, Swap}
use Rattle.fact_books.specs.Runs.{Table}
use Rattle.fact_books.specs.Books.{Contents}
use Rattle.compact_outcomes.specs.CompactTexts.{after_comma}
use Rattle.compact_outcomes.proofs.CompactLemmas.{others-text}
use Rattle.book_format.specs.Forms.{IsForm, tag_number}
use Rattle.book_format.specs.BookText.{tag_data, run_data, book_data, book_text}
use Rattle.book_format.specs.declared.pieces.Pieces.{Pieces}
use Rattle.book_format.specs.Pieces.{tag_front, run_text, told_text, parts_text}
use Rattle.book_format.specs.Writing.{ArePieces}

-- ---- lists

items-text : {X : Type 0} (enc : X → Data) (f : X → List ℕ) → ((x : X) → compact_text (enc x) ≡ f x) → (xs : List X)
    → items_text false (items_of (map enc xs)) ≡ join_by f (codes ",") xs ++ 93 ∷ []
items-text enc f each [] = refl
items-text enc f each (x ∷ xs) =
    (λ i. each x i ++ others-text enc f each xs i) ∙ sym (append_assoc (f x) (flat_map (after_comma f) xs) (93 ∷ []))

-- ---- a run

four : (p q r s : List ℕ) → ((p ++ q) ++ r) ++ s ≡ p ++ (q ++ (r ++ s))
four p q r s = append_assoc (p ++ q) r s ∙ append_assoc p q (r ++ s)

tagged-text : (first count : ℕ) (tag : Tag) → compact_text (list (whole first ∷ whole count ∷ tag_data tag))
    ≡ (codes "[" ++ decimal first) ++ (codes "," ++ decimal count) ++ (tag_front tag ++ decimal (tag_number tag)) ++ codes "]"
unfolding escape_byte
tagged-text first count (Ran n) = sym (four (codes "[" ++ decimal first) (codes "," ++ decimal count) (codes ",\"ran\"," ++ decimal n) (codes "]"))
tagged-text first count (Swap k) = sym (four (codes "[" ++ decimal first) (codes "," ++ decimal count) (codes ",\"swap\"," ++ decimal k) (codes "]"))

run-text : (run : Run) → compact_text (run_data run) ≡ run_text run
run-text run = tagged-text run.first (run.end - run.first) run.tag

-- ---- the whole

past : (a s t : List ℕ) (x : ℕ) → ((a ++ x ∷ []) ++ s) ++ t ≡ a ++ (x ∷ (s ++ t))
past a s t x = ap (λ h. h ++ t) (append_assoc a (x ∷ []) s) ∙ append_assoc a (x ∷ s) t

-- the members, with the lists' texts in their places
data-text : (text : List ℕ) (table : Table) (runs : List Run) → compact_text (book_data text table runs)
    ≡ codes "{\"facts\":[" ++ (items_text false (items_of (map run_data runs)) ++ (codes ",\"format\":2,\"outcomes\":["
    ++ (items_text false (items_of (map outcome_data table)) ++ (codes ",\"spec\":" ++ (quoted text ++ codes "}")))))
unfolding escape_byte digits
data-text text table runs = refl

-- and these texts without their closing brackets
laid-out : (a b c : List ℕ)
    → (codes "{\"facts\":[" ++ ((a ++ 93 ∷ []) ++ (codes ",\"format\":2,\"outcomes\":[" ++ ((b ++ 93 ∷ []) ++ (codes ",\"spec\":" ++
    (c ++ codes "}")))))) ++ 10 ∷ []
    ≡ (codes "{\"facts\":[" ++ a) ++ (codes "],\"format\":2,\"outcomes\":[" ++ b) ++ (codes "],\"spec\":" ++ c ++ codes "}\n")
laid-out a b c =
    ap (λ h. codes "{\"facts\":[" ++ h)
    (past a (codes ",\"format\":2,\"outcomes\":[" ++ ((b ++ 93 ∷ []) ++ (codes ",\"spec\":" ++ (c ++ codes "}")))) (10 ∷ []) 93
    ∙ ap (λ h. a ++ (codes "],\"format\":2,\"outcomes\":[" ++ h))
    (past b (codes ",\"spec\":" ++ (c ++ codes "}")) (10 ∷ []) 93
    ∙ ap (λ h. b ++ (codes "],\"spec\":" ++ h)) (append_assoc c (codes "}") (10 ∷ [])))
    ∙ sym (append_assoc a (codes "],\"format\":2,\"outcomes\":[" ++ b) (codes "],\"spec\":" ++ c ++ codes "}\n")))

pub parts-text : (text : List ℕ) (table : Table) (runs : List Run) (q : List ℕ) → q ≡ compact_text (string text)
    → parts_text runs table q ≡ book_text text table runs
parts-text text table runs q whole =
    let back = sym whole in
    sym (
    ap (λ h. h ++ 10 ∷ []) (data-text text table runs)
    ∙ (λ i. (codes "{\"facts\":[" ++ (items-text run_data run_text run-text runs i ++ (codes ",\"format\":2,\"outcomes\":["
    ++ (items-text outcome_data told_text (λ o. refl) table i ++ (codes ",\"spec\":" ++ (back i ++ codes "}")))))) ++ 10 ∷ [])
    ∙ laid-out (join_by run_text (codes ",") runs) (join_by told_text (codes ",") table) q)

-- the pieces of the one form
pub are-pieces : (book : Contents) (pieces : Pieces) → IsForm book.facts pieces.outcomes.items pieces.runs.items
    → string_bytes pieces.quoted ≡ compact_text (string book.file.text) → ArePieces book pieces
are-pieces book pieces form whole = record {
  text = record {
    table = pieces.outcomes.items;
    runs = pieces.runs.items;
    form = form;
    text_is = parts-text book.file.text pieces.outcomes.items pieces.runs.items (string_bytes pieces.quoted) whole;
  };
  runs_are = refl;
}
