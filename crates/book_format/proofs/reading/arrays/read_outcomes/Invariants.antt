use Rattle.std.proofs.Common.{length}
use Rattle.book_format.proofs.ArrayLemmas.{AreOutcomesTo}
use Rattle.book_format.proofs.reading.arrays.read_outcomes.Given as goal

abbrev pub invariant-loop-next : goal.invariant-loop-next
invariant-loop-next l = AreOutcomesTo l.spec.run l.fn.reader l.reader l.outcomes

abbrev pub decreases-loop-next : goal.decreases-loop-next
decreases-loop-next l = length l.reader
