use Rattle.std.proofs.Common.{length}
use Rattle.book_format.proofs.ArrayLemmas.{AreRunsTo}
use Rattle.book_format.proofs.reading.arrays.read_runs.Given as goal

abbrev pub invariant-loop-next : goal.invariant-loop-next
invariant-loop-next l = AreRunsTo l.spec.run l.fn.outcomes l.fn.reader l.reader l.runs.items l.facts l.ends

abbrev pub decreases-loop-next : goal.decreases-loop-next
decreases-loop-next l = length l.reader
