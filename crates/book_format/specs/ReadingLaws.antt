-- The laws of reading.
use Rattle.std.specs.Prelude.{◌≤◌, List, map, Ok}
use Rattle.serde_json.specs.View.{items_of}
use Rattle.transcripts.specs.Json.{outcome_data}
use Rattle.bound_specs.specs.Spec.{SpecFile}
use Rattle.fact_books.specs.declared.run.Run.{Run}
use Rattle.fact_books.specs.Entries.{FactSet}
use Rattle.fact_books.specs.Runs.{Table}
use Rattle.fact_books.specs.Books.{AllRecordable}
use Rattle.book_format.specs.declared.pieces.TheConstants.{MAX_FACTS}
use Rattle.book_format.specs.Forms.{IsForm}
use Rattle.book_format.specs.BookText.{run_data, total_of}
use Rattle.book_format.specs.ReadingBooks.{IsRunsOf}

-- the values of a form are read as its facts, where these may stand in a book of the spec and are not too many
abbrev pub FormsReadBack : Type 0
FormsReadBack =
    (file : SpecFile) (facts : FactSet) (table : Table) (runs : List Run) → IsForm facts table runs → AllRecordable file.run facts
    → total_of runs ≤ MAX_FACTS
    → IsRunsOf file (items_of (map run_data runs)) (items_of (map outcome_data table)) (Ok (record { file = file; facts = facts }))
