-- Which ranks of a book's spec are missing, and which are to be run.
use Rattle.std.specs.Prelude.{◌≡◌, ◌↔◌, ℕ, ◌<◌, nat_lt, min, max, cond, true, List, [], ◌∷◌, ◌++◌}
use Rattle.bound_specs.specs.Spec.{ranks}
use Rattle.class_stretches.specs.Classes.{Run as Ranks, AreApart, in_runs}
use Rattle.fact_books.specs.declared.run.Run.{Run}
use Rattle.fact_books.specs.Entries.{Told}
use Rattle.fact_books.specs.Books.{Contents, HasFact}
use Rattle.book_stretches.specs.Telling.{Tells}

-- the ranks below a number of which this holds: they rise, each of these has a rank, and between two of them there is one of which it does not hold
pub record AreRanksOf (holds : ℕ → Type 0) (count : ℕ) (runs : List Ranks) : Type 0 where
  pub apart : AreApart 0 runs
  pub each : (r : ℕ) → (in_runs runs r ≡ true) ↔ ((r < count) × holds r)

-- the ranks that are missing: those of which the book tells nothing
abbrev pub AreUntold : Contents → List Ranks → Type 0
AreUntold book runs = AreRanksOf (λ r. (o : Told) → Tells book r o → ⊥) (ranks book.file.run) runs

-- the ranks that are to be run: those of which the book has no fact
abbrev pub AreToRun : Contents → List Ranks → Type 0
AreToRun book runs = AreRanksOf (λ r. HasFact book.facts r → ⊥) (ranks book.file.run) runs

-- no rank of the book's spec has two values
abbrev pub HasNoClash : Contents → Type 0
HasNoClash book = (r : ℕ) (o p : Told) → r < ranks book.file.run → Tells book r o → Tells book r p → o ≡ p

-- ---- what the code keeps

-- the ranks from the first up to but not the end, if there are any
abbrev pub gap : ℕ → ℕ → List Ranks
gap first end = cond (nat_lt first end) (record { first = first; end = end } ∷ []) []

-- the ranks below a number, from here on, that no run covers, where the runs rise
abbrev pub gaps : ℕ → List Run → ℕ → List Ranks
gaps next [] count = gap next count
gaps next (run ∷ runs) count = gap next (min run.first count) ++ gaps (max next run.end) runs count
