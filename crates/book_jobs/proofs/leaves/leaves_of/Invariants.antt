use Rattle.book_jobs.specs.Jobs.{IsFolding, parts_in}
use Rattle.book_jobs.proofs.leaves.leaves_of.Given as goal

abbrev pub invariant-loop-pending : goal.invariant-loop-pending
invariant-loop-pending l = IsFolding l.job l.list.items l.rest.items

abbrev pub decreases-loop-pending : goal.decreases-loop-pending
decreases-loop-pending l = parts_in l.rest.items
