-- What writing a book answers, and what the writer has after it.
use Rattle.std.specs.Prelude.{◌≡◌, ℕ, ◌<◌, ◌⊎◌, List, length, Option, Result, Ok, Err, ⊤}
use Rattle.transcripts.specs.Counted.{Wrote, Stopped}
use Rattle.transcripts.specs.declared.counted.Counted.{Counted}
use Rattle.fact_books.specs.declared.run.Run.{Run}
use Rattle.fact_books.specs.Books.{Contents}
use Rattle.book_format.specs.declared.write_error.WriteError.{WriteError}
use Rattle.book_format.specs.declared.write_error.WriteError.TheVariants.{TooLarge, NoMemory, WriteFault}
use Rattle.book_format.specs.declared.pieces.Pieces.{Pieces}
use Rattle.book_format.specs.declared.pieces.TheConstants.{MAX_TEXT, MAX_FACTS}
use Rattle.book_format.specs.BookText.{IsTextOf, total_of}
use Rattle.book_format.specs.Pieces.{text_in}
use Rattle.book_format.specs.ReadingBooks.{IsBookFile}

-- the text, or the number of facts, is over its limit
abbrev pub IsTooLarge : List ℕ → List Run → Type 0
IsTooLarge text runs = (MAX_TEXT < length text) ⊎ (MAX_FACTS < total_of runs)

-- the book's one text is written, or a front of it; or nothing, where it is too large or memory ran out
abbrev pub IsWritten : {W : Type 0} → (W → Option (List ℕ)) → Counted W → Counted W → Contents → Result ⊤ WriteError → Type 0
IsWritten contents old new book (Ok done) =
    (text : List ℕ) × (t : IsTextOf text book) × (IsTooLarge text t.runs → ⊥) × Wrote contents old new text
IsWritten contents old new book (Err TooLarge) = (new ≡ old) × ((text : List ℕ) × (t : IsTextOf text book) × IsTooLarge text t.runs)
IsWritten contents old new book (Err NoMemory) = new ≡ old
IsWritten contents old new book (Err WriteFault) =
    (text : List ℕ) × (t : IsTextOf text book) × (IsTooLarge text t.runs → ⊥) × Stopped contents old new text

-- what was written is read as the book
abbrev pub ReadsBack : {W : Type 0} → (W → Option (List ℕ)) → Counted W → Counted W → Contents → Type 0
ReadsBack contents old new book = (text : List ℕ) × Wrote contents old new text × IsBookFile text (Ok book)

-- the pieces make the book's one text
pub record ArePieces (book : Contents) (pieces : Pieces) : Type 0 where
  pub text : IsTextOf (text_in pieces) book
  pub runs_are : text.runs ≡ pieces.runs.items

abbrev pub AreTooLarge : Pieces → Type 0
AreTooLarge pieces = IsTooLarge (text_in pieces) pieces.runs.items

-- why a book has no pieces within the limits
abbrev pub IsRefused : Contents → WriteError → Type 0
IsRefused book TooLarge = (text : List ℕ) × (t : IsTextOf text book) × IsTooLarge text t.runs
IsRefused book NoMemory = ⊤
IsRefused book WriteFault = ⊥
