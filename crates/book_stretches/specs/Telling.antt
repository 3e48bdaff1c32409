-- What a book tells of each rank of its spec.
use Rattle.std.specs.Prelude.{◌≡◌, ℕ, ◌<◌, List, length, slice_get, Option, Some, None}
use Rattle.bound_specs.specs.Spec.{SpecFile, ranks}
use Rattle.rank_facts.specs.Swap.{leads_in}
use Rattle.rank_facts.specs.Values.{IsValue}
use Rattle.fact_books.specs.declared.run.Run.{Run}
use Rattle.fact_books.specs.Entries.{Told, recorded}
use Rattle.fact_books.specs.Runs.{Table}
use Rattle.fact_books.specs.Books.{Contents, facts_in}
use Rattle.fact_books.specs.Values.{HasOne}
use Rattle.class_stretches.specs.Stretches.{class_at, end_of}
use Rattle.class_stretches.specs.Groups.{AllDiffer}
use Rattle.book_stretches.specs.declared.error.TellError.{TellError}
use Rattle.book_stretches.specs.declared.error.TellError.TheVariants.{Clash, NoMemory}
use Rattle.book_stretches.specs.declared.told.ToldRanks.{ToldRanks}

-- what the facts of a book tell of a rank: each of its values
abbrev pub Tells : Contents → ℕ → Told → Type 0
Tells book r o = IsValue (recorded book.facts) (leads_in book.file.run) r o

-- nothing is told of the rank; or one outcome, which is that of the class
abbrev pub IsToldAt : Contents → List Told → ℕ → Option ℕ → Type 0
IsToldAt book outcomes r None = (o : Told) → Tells book r o → ⊥
IsToldAt book outcomes r (Some c) = (o : Told) × (slice_get outcomes c ≡ Some o) × HasOne book.facts (leads_in book.file.run) r o

-- the ranks of the book's spec in classes by what is told of them; no two classes have the same outcome
pub record AreTold (book : Contents) (x : ToldRanks) : Type 0 where
  pub all : end_of x.stretches.list ≡ ranks book.file.run
  pub many : length x.outcomes.items ≡ x.stretches.classes
  pub differ : AllDiffer x.outcomes.items
  pub each : (r : ℕ) → r < ranks book.file.run → IsToldAt book x.outcomes.items r (class_at x.stretches.list r)

-- this is the least rank with more than one value
pub record IsLeastClash (book : Contents) (r : ℕ) : Type 0 where
  pub inside : r < ranks book.file.run
  pub two : (o : Told) × (p : Told) × Tells book r o × Tells book r p × (o ≡ p → ⊥)
  pub below : (s : ℕ) (o p : Told) → s < r → Tells book s o → Tells book s p → o ≡ p

-- why it is not told: the least rank with more than one value, or memory ran out
abbrev pub IsNotTold : Contents → TellError → Type 0
IsNotTold book (Clash r) = IsLeastClash book r
IsNotTold book NoMemory = Unit {0}

-- the book of a file with the facts that these runs say
abbrev pub with_facts : SpecFile → Table → List Run → Contents
with_facts file outcomes runs = record { file = file; facts = facts_in outcomes runs }
