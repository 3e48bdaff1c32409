-- The laws of what is told.
use Rattle.std.specs.Prelude.{◌≡◌, ℕ, ◌<◌, slice_get, Some}
use Rattle.bound_specs.specs.Spec.{line_of, ranks}
use Rattle.bound_specs.specs.Binding.{IsFileOf}
use Rattle.machine_model.specs.Outcome.{outcome_of_line}
use Rattle.rank_facts.specs.Values.{AllTrue}
use Rattle.fact_books.specs.Entries.{Told, recorded}
use Rattle.fact_books.specs.Books.{Contents}
use Rattle.class_stretches.specs.Stretches.{class_at}
use Rattle.book_stretches.specs.declared.told.ToldRanks.{ToldRanks}
use Rattle.book_stretches.specs.Telling.{AreTold, IsLeastClash}

-- a book of true facts, whose file is what its text binds to
pub record IsTrueBook (book : Contents) : Type 0 where
  pub file : IsFileOf book.file.text book.file
  pub facts : AllTrue book.file.run (recorded book.facts)

-- such a book has no clash, and each outcome that it tells is what the sequential machine gives
pub record TrueBooksTellTheMachine : Type 0 where
  pub no_clash : (book : Contents) (r : ℕ) → IsTrueBook book → IsLeastClash book r → ⊥
  pub each : (book : Contents) (x : ToldRanks) (r c : ℕ) (o : Told) → IsTrueBook book → AreTold book x → r < ranks book.file.run
      → class_at x.stretches.list r ≡ Some c → slice_get x.outcomes.items c ≡ Some o
      → outcome_of_line book.file.run (line_of book.file.run r) ≡ Some o
