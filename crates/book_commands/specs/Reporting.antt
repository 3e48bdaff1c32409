-- What the program writes for the report of a book.
use Rattle.std.specs.Prelude.{◌≡◌, ℕ, zero, suc, ◌<◌, ◌≤◌, ◌++◌, List, [], length, Option, Result, Ok, Err, ⊤, slice_index_or}
use Rattle.bound_specs.specs.Spec.{Spec, SpecFile, ranks}
use Rattle.transcripts.specs.Counted.{Wrote, Stopped}
use Rattle.transcripts.specs.Text.{rank_text, outcome_text}
use Rattle.transcripts.specs.declared.counted.Counted.{Counted}
use Rattle.machine_model.specs.Outcome.{IsOutcomeOf}
use Rattle.rank_facts.specs.Swap.{leads_in}
use Rattle.fact_books.specs.declared.error.TheConstants.{MAX_REPORTED}
use Rattle.fact_books.specs.Entries.{Told}
use Rattle.fact_books.specs.Books.{Contents}
use Rattle.fact_books.specs.Values.{AreValues, IsNotReported}
use Rattle.book_commands.specs.declared.reporting.ReportFault.{ReportFault}
use Rattle.book_commands.specs.declared.reporting.ReportFault.TheVariants.{Report, Write}
use Rattle.book_commands.specs.declared.reporting.ReportFileFault.{ReportFileFault}
use Rattle.book_commands.specs.declared.reporting.ReportFileFault.TheVariants as file_fault
use Rattle.book_commands.specs.Joining.{IsFileBook}

-- the first values in order, each behind its rank
abbrev pub values_text : SpecFile → List Told → ℕ → List ℕ
values_text file values zero = []
values_text file values (suc n) =
    values_text file values n ++ (rank_text n ++ outcome_text file.session_names file.step_names (slice_index_or values n []))

-- the text tells for each rank of the book's spec the rank and the one value that the book gives it
pub record IsReportText (book : Contents) (text : List ℕ) : Type 0 where
  pub few : ranks book.file.run ≤ MAX_REPORTED
  pub values : List Told
  pub are : AreValues book.facts (leads_in book.file.run) (ranks book.file.run) values
  pub text_is : text ≡ values_text book.file values (ranks book.file.run)

-- the report is written, or a front of it; or nothing, where the book has none
abbrev pub IsReported : {W : Type 0} → (W → Option (List ℕ)) → Counted W → Counted W → Contents → Result ⊤ ReportFault → Type 0
IsReported contents old new book (Ok done) = (text : List ℕ) × IsReportText book text × Wrote contents old new text
IsReported contents old new book (Err (Report error)) = (new ≡ old) × IsNotReported book error
IsReported contents old new book (Err (Write fault)) = (text : List ℕ) × IsReportText book text × Stopped contents old new text

-- the same of the book in a file
abbrev pub IsFileReported : Option (List ℕ) → {W : Type 0} → (W → Option (List ℕ)) → Counted W → Counted W → Result ⊤ ReportFileFault → Type 0
IsFileReported bytes contents old new (Ok done) = (book : Contents) × IsFileBook bytes (Ok book) × IsReported contents old new book (Ok done)
IsFileReported bytes contents old new (Err (file_fault.File fault)) = (new ≡ old) × IsFileBook bytes (Err fault)
IsFileReported bytes contents old new (Err (file_fault.Report fault)) =
    (book : Contents) × IsFileBook bytes (Ok book) × IsReported contents old new book (Err fault)

-- each value is one of the spec's sessions and their own steps
abbrev pub AllOwn : Spec → List Told → Type 0
AllOwn spec values = (r : ℕ) → r < length values → IsOutcomeOf spec (slice_index_or values r [])
