use Rattle.std.proofs.Common.{length}
use Rattle.book_files.proofs.PartLaws.{AreMembersTo}
use Rattle.book_files.proofs.parts.takes_all.Given as goal

abbrev pub invariant-loop-next : goal.invariant-loop-next
invariant-loop-next l = AreMembersTo l.guess l.fn.reader l.reader l.parts

abbrev pub decreases-loop-next : goal.decreases-loop-next
decreases-loop-next l = length l.reader
