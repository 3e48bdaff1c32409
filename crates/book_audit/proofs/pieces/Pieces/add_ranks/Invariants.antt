use Rattle.std.proofs.Common.{ℕ, ◌-◌, ◌≤◌}
use Rattle.fact_books.specs.Runs.{Adds, AllSound, IsNumbered}
use Rattle.book_audit.specs.Pieces.{runs_in}
use Rattle.book_audit.proofs.PieceLemmas.{up_to}
use Rattle.book_audit.proofs.pieces.Pieces.add_ranks.Given as goal

-- the parts up to this rank are there
abbrev pub invariant-loop-first : goal.invariant-loop-first
invariant-loop-first l = record {
  low : l.run.first ≤ l.first;
  high : l.first ≤ l.run.end;
  says : Adds (runs_in l.initial.self) (up_to l.run l.first) (runs_in l.self);
  sound : (n : ℕ) → AllSound n (runs_in l.initial.self) → IsNumbered n l.run.tag → AllSound n (runs_in l.self);
}

abbrev pub decreases-loop-first : goal.decreases-loop-first
decreases-loop-first l = l.run.end - l.first
