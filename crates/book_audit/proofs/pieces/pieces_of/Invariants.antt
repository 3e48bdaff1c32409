use Rattle.std.proofs.Common.{ℕ, take}
use Rattle.fact_books.specs.Runs.{AllSound}
use Rattle.book_audit.specs.Pieces.{runs_in, SaysAll}
use Rattle.book_audit.proofs.pieces.pieces_of.Given as goal

-- the runs before this one are there
abbrev pub invariant-loop-i : goal.invariant-loop-i
invariant-loop-i l = record {
  says : SaysAll (take l.i l.runs) (runs_in l.pieces);
  sound : (n : ℕ) → AllSound n l.runs → AllSound n (runs_in l.pieces);
}
