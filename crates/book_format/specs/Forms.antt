-- The one form of a set of facts: its outcomes in the order of their texts, and its longest runs in order.
use Rattle.std.specs.Prelude.{◌≡◌, ℕ, ◌<◌, List, [], ◌∷◌, length}
use Rattle.std.proofs.Common.{Ordering, Less, nat_cmp}
use Rattle.std.specs.Ordering.{on, then_cmp}
use Rattle.std.specs.Cmp.{IsTotalOrder, nat_cmp_total, on_total, then_total}
use Rattle.transcripts.specs.Compact.{outcome_cmp}
use Rattle.fact_books.specs.declared.run.Run.{Run}
use Rattle.fact_books.specs.declared.run.Tag.{Tag}
use Rattle.fact_books.specs.declared.run.Tag.TheVariants.{Ran, Swap}
use Rattle.fact_books.specs.Entries.{Told, FactSet}
use Rattle.fact_books.specs.Runs.{Table, AllSound}
use Rattle.fact_books.specs.Books.{facts_in}
use Rattle.fact_books.specs.Sweep.{IsIn}

-- the item stands so to each of these
abbrev pub AllAfter : {A : Type 0} → (A → A → Type 0) → A → List A → Type 0
AllAfter R x [] = Unit {0}
AllAfter R x (y ∷ ys) = R x y × AllAfter R x ys

-- each item stands so to all after it
abbrev pub Rises : {A : Type 0} → (A → A → Type 0) → List A → Type 0
Rises R [] = Unit {0}
Rises R (x ∷ xs) = AllAfter R x xs × Rises R xs

-- by the bytes of their compact texts
abbrev pub ComesBefore : Told → Told → Type 0
ComesBefore a b = outcome_cmp a b ≡ Less

abbrev pub tag_kind : Tag → ℕ
tag_kind (Ran n) = 0
tag_kind (Swap k) = 1

abbrev pub tag_number : Tag → ℕ
tag_number (Ran n) = n
tag_number (Swap k) = k

-- by the first rank, outcomes before swaps, then by number
abbrev pub run_cmp : Run → Run → Ordering
run_cmp = then_cmp (on (λ (run : Run). run.first) nat_cmp) (then_cmp (on (λ (run : Run). tag_kind run.tag) nat_cmp) (on (λ
    (run : Run). tag_number run.tag) nat_cmp))

pub run_total : IsTotalOrder run_cmp
run_total = then_total (on_total (λ (run : Run). run.first) nat_cmp_total)
    (then_total (on_total (λ (run : Run). tag_kind run.tag) nat_cmp_total) (on_total (λ (run : Run). tag_number run.tag) nat_cmp_total))

-- the other run comes later, and where it says the same they neither overlap nor touch
pub record IsLater (run other : Run) : Type 0 where
  pub later : run_cmp run other ≡ Less
  pub apart : run.tag ≡ other.tag → run.end < other.first

-- some run names the outcome with this number
abbrev pub IsNamed : ℕ → List Run → Type 0
IsNamed n runs = (run : Run) × IsIn run runs × (run.tag ≡ Ran n)

pub record IsForm (facts : FactSet) (table : Table) (runs : List Run) : Type 0 where
  pub table_rises : Rises ComesBefore table
  pub runs_rise : Rises IsLater runs
  pub sound : AllSound (length table) runs
  pub named : (n : ℕ) → n < length table → IsNamed n runs
  pub facts_are : facts_in table runs ≡ facts
