use Rattle.std.proofs.Common.{length}
use Rattle.book_jobs.proofs.making.+made.Given as goal

abbrev pub decreases-made : goal.decreases-made
decreases-made c = length c.leaves.now
