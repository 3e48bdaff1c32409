-- What the program writes for whether a book holds a range of a spec's ranks.
use Rattle.std.specs.Prelude.{◌≡◌, ◌≢◌, ℕ, ◌<◌, ◌≤◌, ◌++◌, List, codes, Option, Result, Ok, Err}
use Rattle.transcripts.specs.Counted.{Wrote, Stopped}
use Rattle.transcripts.specs.Lines.{number_line}
use Rattle.transcripts.specs.declared.counted.Counted.{Counted}
use Rattle.fact_books.specs.Books.{Contents, HasFact}
use Rattle.book_commands.specs.declared.finding.Finding.{Finding}
use Rattle.book_commands.specs.declared.finding.Finding.TheVariants.{Good, Bad}
use Rattle.book_commands.specs.declared.holding.Holding.{Holding}
use Rattle.book_commands.specs.declared.holding.Holding.TheVariants.{All, OtherSpec, Missing}
use Rattle.book_commands.specs.declared.holding.HoldFault.{HoldFault}
use Rattle.book_commands.specs.declared.holding.HoldFault.TheVariants.{File, Write}
use Rattle.book_commands.specs.Joining.{IsFileBook}

-- the book has a fact of each rank from the first up to but not the end
abbrev pub HoldsRange : Contents → ℕ → ℕ → Type 0
HoldsRange book first end = (r : ℕ) → first ≤ r → r < end → HasFact book.facts r

-- the book is of this text and has a fact of each rank of the range; or it is of another text; or it is of this one, and this is the least rank of the
-- range without a fact
abbrev pub IsHeldBy : Contents → List ℕ → ℕ → ℕ → Holding → Type 0
IsHeldBy book text first end All = (book.file.text ≡ text) × HoldsRange book first end
IsHeldBy book text first end OtherSpec = book.file.text ≢ text
IsHeldBy book text first end (Missing rank) =
    (book.file.text ≡ text) × (first ≤ rank) × (rank < end) × (HasFact book.facts rank → ⊥) × HoldsRange book first rank

abbrev pub holding_text : Holding → List ℕ
holding_text All = codes "true\n"
holding_text OtherSpec = codes "another spec\n"
holding_text (Missing rank) = codes "missing rank " ++ number_line rank

abbrev pub finding_of : Holding → Finding
finding_of All = Good
finding_of OtherSpec = Bad
finding_of (Missing rank) = Bad

-- the file's book holds this
pub record IsHeldOf (bytes : Option (List ℕ)) (text : List ℕ) (first end : ℕ) (holding : Holding) : Type 0 where
  pub book : Contents
  pub is_book : IsFileBook bytes (Ok book)
  pub held : IsHeldBy book text first end holding

-- what the file's book holds is written, or a front of it; or nothing, where the file is no book
abbrev pub IsHoldRun : Option (List ℕ) → List ℕ → ℕ → ℕ → {W : Type 0} → (W → Option (List ℕ)) → Counted W → Counted W → Result Finding HoldFault → Type 0
IsHoldRun bytes text first end contents old new (Ok finding) =
    (holding : Holding) × IsHeldOf bytes text first end holding × (finding ≡ finding_of holding) × Wrote contents old new (holding_text holding)
IsHoldRun bytes text first end contents old new (Err (File fault)) = (new ≡ old) × IsFileBook bytes (Err fault)
IsHoldRun bytes text first end contents old new (Err (Write fault)) =
    (holding : Holding) × IsHeldOf bytes text first end holding × Stopped contents old new (holding_text holding)
