-- The laws of book files.
use Rattle.std.specs.Prelude.{◌≡◌, ℕ, ◌<◌, ◌≤◌, ◌^◌, List, length, Some, All, Ok, IsUtf8}
use Rattle.serde_json.specs.Read.{read}
use Rattle.transcripts.specs.Outcome.{OutcomeFits}
use Rattle.fact_books.specs.declared.run.Run.{Run}
use Rattle.fact_books.specs.Runs.{Table}
use Rattle.bound_specs.specs.Binding.{IsFileOf}
use Rattle.fact_books.specs.Books.{Contents, AllRecordable}
use Rattle.book_format.specs.Forms.{tag_number}
use Rattle.book_format.specs.declared.pieces.TheConstants.{MAX_TEXT, MAX_FACTS}
use Rattle.book_format.specs.BookText.{IsTextOf, book_data, book_text, total_of}
use Rattle.book_format.specs.Reading.{Read}
use Rattle.book_format.specs.ReadingBooks.{IsBookFile}

-- a book has one text at most
abbrev pub BooksHaveOneText : Type 0
BooksHaveOneText = (a b : List ℕ) (book : Contents) → IsTextOf a book → IsTextOf b book → a ≡ b

-- bytes are one book at most, or are refused for one reason
abbrev pub BytesAreOneBook : Type 0
BytesAreOneBook = (bytes : List ℕ) (a b : Read Contents) → IsBookFile bytes a → IsBookFile bytes b → a ≡ b

-- the numbers of a run have 64 bits
abbrev pub RunFits : Run → Type 0
RunFits run = (run.first < 2 ^ 64) × (run.end < 2 ^ 64) × (tag_number run.tag < 2 ^ 64)

-- the text of a book reads as its JSON value
abbrev pub TextsReadAsValues : Type 0
TextsReadAsValues = (text : List ℕ) (table : Table) (runs : List Run) → All OutcomeFits table → All RunFits runs
    → read (book_text text table runs) ≡ Some (book_data text table runs)

-- what is written of a book is read as the book
abbrev pub WrittenBooksReadBack : Type 0
WrittenBooksReadBack = (text : List ℕ) (book : Contents) (t : IsTextOf text book) → IsFileOf book.file.text book.file
    → AllRecordable book.file.run book.facts → IsUtf8 text → length text ≤ MAX_TEXT → total_of t.runs ≤ MAX_FACTS → All RunFits t.runs
    → IsBookFile text (Ok book)
