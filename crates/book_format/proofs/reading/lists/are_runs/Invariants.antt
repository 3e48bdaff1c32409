use Rattle.book_format.proofs.TextBooks.{AreReadTo}
use Rattle.book_format.proofs.reading.lists.are_runs.Given as goal

abbrev pub invariant-loop-i : goal.invariant-loop-i
invariant-loop-i l = AreReadTo l.spec.run l.fn.outcomes l.runs l.i l.facts l.ends
