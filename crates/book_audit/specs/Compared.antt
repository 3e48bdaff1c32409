-- Outcomes that were told, compared with those of a table.
use Rattle.std.specs.Prelude.{◌≡◌, ◌↔◌, List, [], All, IsTrue, Some, slice_get, slice_index_or}
use Rattle.fact_books.specs.Entries.{Told}
use Rattle.fact_books.specs.Runs.{Table}
use Rattle.book_audit.specs.declared.comparing.Comparison.{Comparison}

-- the outcome was told with the number, and the answer is whether it is the one at the place
pub record IsCompared (told : List Told) (table : Table) (c : Comparison) : Type 0 where
  pub outcome : Told
  pub told_is : slice_get told c.number ≡ Some outcome
  pub answer : IsTrue c.is_same ↔ (outcome ≡ slice_index_or table c.place [])

abbrev pub AreCompared : List Told → Table → List Comparison → Type 0
AreCompared told table comparisons = All (IsCompared told table) comparisons
