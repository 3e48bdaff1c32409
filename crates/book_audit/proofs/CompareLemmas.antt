-- Outcomes that were compared, when more is told and where a comparison is looked up.
use Rattle.std.proofs.Common.{◌≡◌, ◌↔◌, sym, subst, ◌∙◌, ℕ, zero, suc, List, [], ◌∷◌, ◌++◌, Some, IsTrue, slice_get, slice_index_or}
use mathlib.Core.List.{IsPrefix}
use Rattle.std.proofs.lemmas.List.Elements.{All-head, All-tail, All-weaker}
use Rattle.fact_books.specs.Entries.{Told}
use Rattle.fact_books.specs.Runs.{Table}
use Rattle.book_audit.specs.declared.comparing.Comparison.{Comparison}
use Rattle.book_audit.specs.Compared.{IsCompared, AreCompared}

-- what was told with a number stays told
in-front : (xs ys : List Told) (n : ℕ) (o : Told) → slice_get xs n ≡ Some o → slice_get (xs ++ ys) n ≡ Some o
in-front [] ys n o is = absurd (cc)
in-front (x ∷ xs) ys zero o is = is
in-front (x ∷ xs) ys (suc n) o is = in-front xs ys n o is

pub compared-more : (old new : List Told) (table : Table) (cs : List Comparison) → IsPrefix old new → AreCompared old table cs → AreCompared new table cs
compared-more old new table cs front are =
    All-weaker (IsCompared old table) (IsCompared new table)
    (λ c is. record {
      outcome = is.outcome;
      told_is = subst (λ l. slice_get l c.number ≡ Some is.outcome) front.1 (in-front old front.0 c.number is.outcome is.told_is);
      answer = is.answer;
    }) cs are

-- a comparison that is looked up
pub compared-at : (told : List Told) (table : Table) (cs : List Comparison) (k : ℕ) (c : Comparison) → slice_get cs k ≡ Some c → AreCompared told table cs
    → IsCompared told table c
compared-at told table [] k c is are = absurd (cc)
compared-at told table (x ∷ cs) zero c is are =
    let same : x ≡ c = cc in subst (IsCompared told table) same (All-head (IsCompared told table) x cs are)
compared-at told table (x ∷ cs) (suc k) c is are = compared-at told table cs k c is (All-tail (IsCompared told table) x cs are)

-- it answers for the outcome that was told with its number
pub compared-answers : (told : List Told) (table : Table) (c : Comparison) (o : Told) → IsCompared told table c → slice_get told c.number ≡ Some o
    → IsTrue c.is_same ↔ (o ≡ slice_index_or table c.place [])
compared-answers told table c o is there =
    let both = sym is.told_is ∙ there in
    let same : is.outcome ≡ o = cc in
    subst (λ x. IsTrue c.is_same ↔ (x ≡ slice_index_or table c.place [])) same is.answer
