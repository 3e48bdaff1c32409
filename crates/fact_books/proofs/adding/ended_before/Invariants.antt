use Rattle.std.proofs.Common.{◌≤◌, length}
use Rattle.fact_books.proofs.adding.ended_before.Given as goal

abbrev pub invariant-loop-count : goal.invariant-loop-count
invariant-loop-count l = l.count ≤ length l.runs

abbrev pub decreases-loop-count : goal.decreases-loop-count
decreases-loop-count l = l.count
