-- Books from files, and what the program writes for their join.
use Rattle.std.specs.Prelude.{◌≡◌, ◌≢◌, ℕ, zero, suc, ◌<◌, List, [], length, get_or, Option, None, Result, Ok, Err, IfSome, ⊤}
use Rattle.transcripts.specs.declared.counted.Counted.{Counted}
use Rattle.bound_specs.specs.Binding.{IsFileOf}
use Rattle.fact_books.specs.Books.{Contents, joined, AllRecordable}
use Rattle.book_format.specs.declared.error.BookError.TheVariants.{ReadFault}
use Rattle.book_format.specs.ReadingBooks.{IsReadOf}
use Rattle.book_format.specs.Writing.{IsWritten}
use Rattle.book_commands.specs.declared.joining.FileFault.{FileFault}
use Rattle.book_commands.specs.declared.joining.FileFault.TheVariants.{Unopened, Book}
use Rattle.book_commands.specs.declared.joining.JoinFault.{JoinFault}
use Rattle.book_commands.specs.declared.joining.JoinFault.TheVariants.{File, OtherSpec, NoMemory, Write}

-- the bytes of the file at each path, where they are known
abbrev pub Files : Type 0
Files = List ℕ → Option (List ℕ)

-- a book is one of the spec that its text binds to, with facts that may stand in its books; and the answer is what the file's bytes are as a book,
-- where they are known: such a file is opened and read, unless memory runs out
abbrev pub IsFileBook : Option (List ℕ) → Result Contents FileFault → Type 0
IsFileBook bytes (Ok book) =
    IsFileOf book.file.text book.file × AllRecordable book.file.run book.facts × IfSome bytes (λ known. IsReadOf known (Ok book))
IsFileBook bytes (Err (Book error)) = IfSome bytes (λ known. IsReadOf known (Err error) × (error ≢ ReadFault))
IsFileBook bytes (Err Unopened) = bytes ≡ None

abbrev pub bytes_at : Files → List (List ℕ) → ℕ → Option (List ℕ)
bytes_at files paths i = files (get_or paths i [])

-- the book is the join of those in the first files, which are of one spec
abbrev pub IsJoinOf : Files → List (List ℕ) → ℕ → Contents → Type 0
IsJoinOf files paths zero book = ⊥
IsJoinOf files paths (suc zero) book = IsFileBook (bytes_at files paths 0) (Ok book)
IsJoinOf files paths (suc (suc n)) book =
    (before next : Contents) × IsJoinOf files paths (suc n) before × IsFileBook (bytes_at files paths (suc n)) (Ok next)
    × (before.file ≡ next.file) × (book ≡ joined before next)

-- the files before this place are books of one spec, if there are any
abbrev pub AreJoined : Files → List (List ℕ) → ℕ → Type 0
AreJoined files paths zero = Unit {0}
AreJoined files paths (suc n) = (book : Contents) × IsJoinOf files paths (suc n) book

-- why the files are not joined: the first that gives no book or one of another spec, unless memory ran out
abbrev pub IsNotJoined : Files → List (List ℕ) → JoinFault → Type 0
IsNotJoined files paths (File place fault) = (place < length paths) × AreJoined files paths place × IsFileBook (bytes_at files paths place) (Err fault)
IsNotJoined files paths (OtherSpec place) =
    (place < length paths) × ((before next : Contents) × IsJoinOf files paths place before × IsFileBook (bytes_at files paths place) (Ok next)
    × (before.file.text ≢ next.file.text))
IsNotJoined files paths NoMemory = Unit {0}
IsNotJoined files paths (Write error) = ⊥

abbrev pub IsJoined : Files → List (List ℕ) → Result Contents JoinFault → Type 0
IsJoined files paths (Ok book) = IsJoinOf files paths (length paths) book
IsJoined files paths (Err fault) = IsNotJoined files paths fault

-- the text of the joined book is written, or a front of it; or nothing, where there is none or it is refused
abbrev pub IsJoinRun : Files → List (List ℕ) → {W : Type 0} → (W → Option (List ℕ)) → Counted W → Counted W → Result ⊤ JoinFault → Type 0
IsJoinRun files paths contents old new (Ok done) = (book : Contents) × IsJoinOf files paths (length paths) book × IsWritten contents old new book (Ok done)
IsJoinRun files paths contents old new (Err (Write error)) =
    (book : Contents) × IsJoinOf files paths (length paths) book × IsWritten contents old new book (Err error)
IsJoinRun files paths contents old new (Err fault) = (new ≡ old) × IsNotJoined files paths fault

-- a fault of one of so many files
abbrev pub IsPlaced : ℕ → JoinFault → Type 0
IsPlaced count (File place fault) = place < count
IsPlaced count (OtherSpec place) = place < count
IsPlaced count NoMemory = Unit {0}
IsPlaced count (Write error) = Unit {0}

-- ---- what the code keeps

-- the next file's book is joined to one, or refused
abbrev pub IsNext : Files → List (List ℕ) → ℕ → Contents → Result Contents JoinFault → Type 0
IsNext files paths place book (Ok all) =
    (next : Contents) × IsFileBook (bytes_at files paths place) (Ok next) × (book.file ≡ next.file) × (all ≡ joined book next)
IsNext files paths place book (Err (File at fault)) = (at ≡ place) × IsFileBook (bytes_at files paths place) (Err fault)
IsNext files paths place book (Err (OtherSpec at)) =
    (at ≡ place) × ((next : Contents) × IsFileBook (bytes_at files paths place) (Ok next) × (book.file.text ≢ next.file.text))
IsNext files paths place book (Err NoMemory) = Unit {0}
IsNext files paths place book (Err (Write error)) = ⊥
