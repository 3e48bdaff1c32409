-- What is written of a book is UTF-8, and is read as the book.
use Rattle.std.proofs.Common.{refl, sym, subst, ℕ, suc, ◌-◌, ◌<◌, ◌≤◌, ◌⊎◌, ◌^◌, inl, inr, ⊎_elim, List, [], ◌∷◌, codes, Ok, arith}
use Rattle.std.specs.Prelude.{All, IsUtf8, decimal, flat_map, string_bytes}
use Rattle.std.specs.List.{join_by}
use Rattle.std.proofs.lemmas.Str.{IsUtf8-append, IsUtf8-nil, IsUtf8-from_ascii, IsUtf8-string_bytes}
use Rattle.std.proofs.lemmas.Fmt.{IsAscii-decimal}
use Rattle.json.proofs.Printed.Utf8.{IsUtf8-are_ascii}
use Rattle.bound_specs.specs.Binding.{IsFileOf}
use Rattle.fact_books.specs.declared.run.Run.{Run}
use Rattle.fact_books.specs.declared.run.Tag.{Tag}
use Rattle.fact_books.specs.declared.run.Tag.TheVariants.{Ran, Swap}
use Rattle.fact_books.specs.Runs.{Table}
use Rattle.fact_books.specs.Books.{Contents, AllRecordable}
use Rattle.book_format.specs.declared.pieces.Pieces.{Pieces}
use Rattle.book_format.specs.declared.pieces.TheConstants.{MAX_TEXT, MAX_FACTS}
use Rattle.book_format.specs.BookText.{total_of}
use Rattle.book_format.specs.Laws.{RunFits}
use Rattle.compact_outcomes.specs.CompactTexts.{after_comma}
use Rattle.book_format.specs.Pieces.{tag_front, run_text, parts_text, text_in, told_text, IsUtf8Told}
use Rattle.book_format.specs.ReadingBooks.{IsBookFile}
use Rattle.book_format.specs.Writing.{ArePieces, AreTooLarge}
use Rattle.book_format.proofs.BackLemmas.{text-back}

-- ---- runs

number : (n : ℕ) → n < 2 ^ 64 → IsUtf8 (decimal n)
number n lt = IsUtf8-from_ascii (decimal n) (IsAscii-decimal n lt)

tag-front : (tag : Tag) → IsUtf8 (tag_front tag)
tag-front (Ran n) = IsUtf8-are_ascii (codes ",\"ran\",") refl
tag-front (Swap k) = IsUtf8-are_ascii (codes ",\"swap\",") refl

fewer : (first end : ℕ) → end < 2 ^ 64 → end - first < 2 ^ 64
fewer first end lt = omega (arith, lt)

run-utf8 : (run : Run) → RunFits run → IsUtf8 (run_text run)
run-utf8 run fits =
    IsUtf8-append _ _ (IsUtf8-append _ _ (IsUtf8-append _ _ (IsUtf8-append (codes "[") _ (IsUtf8-are_ascii (codes "[") refl) (number run.first fits.0))
    (IsUtf8-append (codes ",") _ (IsUtf8-are_ascii (codes ",") refl) (number (run.end - run.first) (fewer run.first run.end fits.1))))
    (IsUtf8-append _ _ (tag-front run.tag) (number _ fits.2))) (IsUtf8-are_ascii (codes "]") refl)

-- ---- lists

others-utf8 : {X : Type 0} (f : X → List ℕ) (P : X → Type 0) → ((x : X) → P x → IsUtf8 (f x)) → (xs : List X) → All P xs
    → IsUtf8 (flat_map (after_comma f) xs)
others-utf8 f P each [] all = IsUtf8-nil
others-utf8 f P each (x ∷ xs) all =
    IsUtf8-append _ _ (IsUtf8-append (codes ",") (f x) (IsUtf8-are_ascii (codes ",") refl) (each x (all 0 x (omega arith))))
    (others-utf8 f P each xs (λ k d lt. all (suc k) d (omega (arith, lt))))

joined-utf8 : {X : Type 0} (f : X → List ℕ) (P : X → Type 0) → ((x : X) → P x → IsUtf8 (f x)) → (xs : List X) → All P xs
    → IsUtf8 (join_by f (codes ",") xs)
joined-utf8 f P each [] all = IsUtf8-nil
joined-utf8 f P each (x ∷ xs) all =
    IsUtf8-append (f x) _ (each x (all 0 x (omega arith))) (others-utf8 f P each xs (λ k d lt. all (suc k) d (omega (arith, lt))))

-- ---- the whole

text-utf8 : (runs : List Run) (table : Table) (quoted : List ℕ) → All RunFits runs → All IsUtf8Told table → IsUtf8 quoted
    → IsUtf8 (parts_text runs table quoted)
text-utf8 runs table quoted fits told utf8 =
    IsUtf8-append _ _
    (IsUtf8-append _ _ (IsUtf8-append (codes "{\"facts\":[") _ (IsUtf8-are_ascii (codes "{\"facts\":[") refl) (joined-utf8 run_text RunFits run-utf8 runs fits))
    (IsUtf8-append (codes "],\"format\":2,\"outcomes\":[") _ (IsUtf8-are_ascii (codes "],\"format\":2,\"outcomes\":[") refl)
    (joined-utf8 told_text IsUtf8Told (λ o utf8. utf8) table told)))
    (IsUtf8-append _ _ (IsUtf8-append (codes "],\"spec\":") quoted (IsUtf8-are_ascii (codes "],\"spec\":") refl) utf8) (IsUtf8-are_ascii (codes "}\n") refl))

at-most : (n m : ℕ) → (n < m → ⊥) → m ≤ n
at-most n m not = let cases : (m ≤ n) ⊎ (n < m) = grind arith in ⊎_elim (λ le. le) (λ lt. absurd (not lt)) cases

pub pieces-back : (book : Contents) (pieces : Pieces) → ArePieces book pieces → (AreTooLarge pieces → ⊥) → All RunFits pieces.runs.items
    → All IsUtf8Told pieces.outcomes.items → IsFileOf book.file.text book.file → AllRecordable book.file.run book.facts → IsBookFile (text_in pieces) (Ok book)
pieces-back book pieces are fit fits told file recordable =
    text-back (text_in pieces) book are.text file recordable
    (text-utf8 pieces.runs.items pieces.outcomes.items (string_bytes pieces.quoted) fits told (IsUtf8-string_bytes pieces.quoted))
    (at-most MAX_TEXT _ (λ long. fit (inl long)))
    (subst (λ rs. total_of rs ≤ MAX_FACTS) (sym are.runs_are) (at-most MAX_FACTS _ (λ many. fit (inr many))))
    (subst (All RunFits) (sym are.runs_are) fits)
