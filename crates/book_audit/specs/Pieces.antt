-- Runs in pieces, and what is found of all of them.
use Rattle.std.specs.Prelude.{◌≡◌, min, List, [], ◌∷◌, ◌++◌}
use Rattle.std.specs.List.{list_any}
use Rattle.fact_books.specs.declared.run.Run.{Run}
use Rattle.fact_books.specs.Runs.{Table, has}
use Rattle.fact_books.specs.Entries.{Entry}
use Rattle.book_audit.specs.declared.finding.Finding.{Finding}
use Rattle.book_audit.specs.declared.finding.Finding.TheVariants.{AllTrue, False, NoMemory}
use Rattle.book_audit.specs.declared.pieces.Pieces.{Pieces}

-- the runs of all pieces, one after the other
abbrev pub runs_of : List (List Run) → List Run
runs_of [] = []
runs_of (piece ∷ pieces) = piece ++ runs_of pieces

-- the runs that are cut so far
abbrev pub runs_in : Pieces → List Run
runs_in pieces = runs_of pieces.ended.items ++ pieces.rest

-- both lists say the same facts
abbrev pub SaysAll : List Run → List Run → Type 0
SaysAll old new = (table : Table) (e : Entry) → list_any (has table e) new ≡ list_any (has table e) old

-- what is found of two pieces: the least of their ranks, and no memory where one of them had none
abbrev pub both : Finding → Finding → Finding
both NoMemory b = NoMemory
both AllTrue b = b
both (False r) NoMemory = NoMemory
both (False r) AllTrue = False r
both (False r) (False s) = False (min r s)

-- what is found of all pieces, and of those before them
abbrev pub all_of : Finding → List Finding → Finding
all_of before [] = before
all_of before (finding ∷ findings) = all_of (both before finding) findings
