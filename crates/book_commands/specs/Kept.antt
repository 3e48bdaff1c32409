-- What is kept of a book that is judged or accepted: its spec and its report.
use Rattle.std.specs.Prelude.{◌≡◌, ◌≤◌, List, [], ◌∷◌, length}
use Rattle.bound_specs.specs.Spec.{SpecFile, ranks}
use Rattle.rank_facts.specs.Swap.{leads_in}
use Rattle.fact_books.specs.declared.error.TheConstants.{MAX_REPORTED}
use Rattle.fact_books.specs.Entries.{Told}
use Rattle.fact_books.specs.Books.{Contents, AllRecordable}
use Rattle.fact_books.specs.Values.{AreValues}
use Rattle.book_commands.specs.Reporting.{AllOwn}

-- the book has this report: the one value of each rank
abbrev pub HasReport : Contents → List Told → Type 0
HasReport book report = (ranks book.file.run ≤ MAX_REPORTED) × AreValues book.facts (leads_in book.file.run) (ranks book.file.run) report

-- the spec and the report are the book's
pub record IsKept (book : Contents) (spec : SpecFile) (report : List Told) : Type 0 where
  pub spec_is : spec ≡ book.file
  pub recordable : AllRecordable book.file.run book.facts
  pub has_report : HasReport book report

-- the specs and the reports are those of the books in their order
abbrev pub AreKept : List Contents → List SpecFile → List (List Told) → Type 0
AreKept [] [] [] = Unit {0}
AreKept (book ∷ books) (spec ∷ specs) (report ∷ reports) = IsKept book spec report × AreKept books specs reports
AreKept books specs reports = ⊥

-- the report has a value for each rank of the spec, each of the spec's sessions and their own steps
pub record IsOwn (spec : SpecFile) (report : List Told) : Type 0 where
  pub count : length report ≡ ranks spec.run
  pub own : AllOwn spec.run report
