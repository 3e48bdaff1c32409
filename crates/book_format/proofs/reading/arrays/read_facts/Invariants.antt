use Rattle.std.proofs.Common.{length}
use Rattle.book_format.proofs.ArrayLemmas.{AreFactsTo}
use Rattle.book_format.proofs.reading.arrays.read_facts.Given as goal

abbrev pub invariant-loop-next : goal.invariant-loop-next
invariant-loop-next l = AreFactsTo l.spec.run l.fn.reader l.reader l.last.items l.builder

abbrev pub decreases-loop-next : goal.decreases-loop-next
decreases-loop-next l = length l.reader
