use Rattle.std.specs.Prelude.{◌≤◌, ◌<◌, ◌+◌, ℕ, slice_index_or}
use Rattle.fact_books.specs.declared.run.Run.{Run}
use Rattle.book_format.proofs.canonical.are_in_turn.Given as goal

-- the first runs come one behind the other
abbrev pub invariant-loop-i : goal.invariant-loop-i
invariant-loop-i l = (k : ℕ) (d : Run) → k + 1 < l.i → (slice_index_or l.runs k d).end ≤ (slice_index_or l.runs (k + 1) d).first
