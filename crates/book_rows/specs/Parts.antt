-- The parts of what is done for classes of books.
use Rattle.std.specs.Prelude.{◌≡◌, ℕ, ◌<◌, List, length, Some, slice_get}
use Rattle.bound_specs.specs.Spec.{Spec, line_of}
use Rattle.fact_books.specs.Entries.{Told}
use Rattle.order_classes.specs.declared.rows.ClassRow.{ClassRow}
use Rattle.class_stretches.specs.declared.tally.Tally.{Tally}
use Rattle.class_stretches.specs.Groups.{class_by, tally_of_class}
use Rattle.class_stretches.specs.Stretches.{end_of}
use Rattle.book_stretches.specs.declared.told.ToldRanks.{ToldRanks}
use Rattle.book_rows.specs.Classes.{letters_of, told_alone}

-- so many ranks are in classes by what is told of them
pub record AreInClasses (ranks : ℕ) (x : ToldRanks) : Type 0 where
  pub all : end_of x.stretches.list ≡ ranks
  pub many : length x.outcomes.items ≡ x.stretches.classes

-- the row of a tally, of whose ranks this is told
pub record IsRowOf (spec : Spec) (tally : Tally) (told : Told) (row : ClassRow) : Type 0 where
  pub least : row.least ≡ tally.least
  pub count : row.count ≡ tally.count
  pub line : row.line.items ≡ line_of spec tally.least
  pub shows : row.shows ≡ told_alone told
  pub letters : row.letters ≡ letters_of (told_alone told)

-- the rows of the first classes
pub record AreRowsTo (spec : Spec) (x : ToldRanks) (n : ℕ) (rows : List ClassRow) : Type 0 where
  pub long : length rows ≡ n
  pub each : (k : ℕ) (row : ClassRow) → slice_get rows k ≡ Some row
      → (told : Told) × (slice_get x.outcomes.items k ≡ Some told) × IsRowOf spec (tally_of_class (class_by x.stretches.list k told)) told row

abbrev pub AreRowsOf : Spec → ToldRanks → List ClassRow → Type 0
AreRowsOf spec x rows = AreRowsTo spec x (length x.outcomes.items) rows
