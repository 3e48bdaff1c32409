-- What books tell of the orders of their spec, in classes.
use Rattle.std.specs.Prelude.{◌≡◌, ◌↔◌, ℕ, suc, ◌<◌, true, false, List, [], ◌∷◌, length, Option, Some, None}
use Rattle.std.specs.List.{AllZip}
use Rattle.bound_specs.specs.Spec.{Spec, line_of, ranks}
use Rattle.fact_books.specs.Books.{Contents}
use Rattle.fact_books.specs.Entries.{Told}
use Rattle.order_classes.specs.declared.shows.Shows.{Shows}
use Rattle.order_classes.specs.declared.rows.ClassRow.{ClassRow}
use Rattle.order_classes.specs.declared.rows.Letters.{Letters}
use Rattle.order_classes.specs.Letters.{letter_w, letter_d, letter_e, letter_n}
use Rattle.class_stretches.specs.Classes.{Run, Class, AreApart, AreGroups, in_runs, ranks_in}
use Rattle.class_stretches.specs.Stretches.{end_of, missing_by, runs_with}
use Rattle.class_stretches.specs.declared.stretch.Stretch.{Stretch}
use Rattle.book_stretches.specs.Telling.{Tells}
use Rattle.book_rows.specs.Totals.{totals_by}
use Rattle.book_rows.specs.declared.classed.BookClasses.{BookClasses}
use Rattle.class_stretches.specs.declared.missing.Missing.{Missing}

-- what is told, with nothing of what is left
abbrev pub told_alone : Told → Shows
told_alone told = record { told = told; left = []; rests = [] }

-- S and R are not told
abbrev pub letters_of : Shows → Letters
letters_of s = record { waits = letter_w s; deadlock = letter_d s; error = letter_e s; unsent = letter_n s; stuck = false; not_serial = None }

-- the class is told by the row: its least rank and its number, the order of that rank, what is told of it, and its letters
pub record IsRow (spec : Spec) (c : Class Told) (row : ClassRow) : Type 0 where
  pub least : row.least ≡ c.least
  pub count : row.count ≡ c.count
  pub line : row.line.items ≡ line_of spec c.least
  pub shows : row.shows ≡ told_alone c.shows
  pub letters : row.letters ≡ letters_of (told_alone c.shows)

-- these ranks of a book's spec are missing: those of which nothing is told
pub record AreMissing (book : Contents) (missing : Option Missing) : Type 0 where
  pub runs : List Run
  pub apart : AreApart 0 runs
  pub each : (r : ℕ) → (in_runs runs r ≡ true) ↔ ((r < ranks book.file.run) × ((o : Told) → Tells book r o → ⊥))
  pub are : missing ≡ missing_by runs

-- the class of a number has the ranks of the group in its place
abbrev pub HaveRuns : List Stretch → ℕ → List (Class Told) → Type 0
HaveRuns ss n [] = Unit {0}
HaveRuns ss n (c ∷ cs) = (runs_with (Some n) 0 ss ≡ c.runs) × HaveRuns ss (suc n) cs

-- the ranks of a book's spec of which something is told, grouped by that: each tells one thing alone; a row of each class in their order, the totals,
-- which ranks are missing, and which are in which class
pub record IsClassedBook (book : Contents) (x : BookClasses) : Type 0 where
  pub one : (r : ℕ) (o p : Told) → r < ranks book.file.run → Tells book r o → Tells book r p → o ≡ p
  pub classes : List (Class Told)
  pub groups : AreGroups (Tells book) 0 (ranks book.file.run) classes
  pub rows : AllZip (IsRow book.file.run) classes x.rows.items
  pub totals : x.totals ≡ totals_by x.rows.items
  pub missing : AreMissing book x.missing
  pub ends : end_of x.told.stretches.list ≡ ranks book.file.run
  pub count : x.told.stretches.classes ≡ length classes
  pub runs : HaveRuns x.told.stretches.list 0 classes
