use Rattle.std.proofs.Common.{◌≤◌, ◌+◌}
use Rattle.book_jobs.specs.JobTrees.{weight, join_of}
use Rattle.book_jobs.proofs.job.+letting_go.Given as goal

abbrev pub decreases-Job::drop : goal.decreases-Job::drop
decreases-Job::drop c = weight c.self + weight c.self

abbrev pub decreases-less : goal.decreases-less
decreases-less c = weight (join_of c.left c.right) + weight c.left

abbrev pub invariant-Job::drop-loop-self : goal.invariant-Job::drop-loop-self
invariant-Job::drop-loop-self l = weight l.self ≤ weight l.initial.self

abbrev pub decreases-Job::drop-loop-self : goal.decreases-Job::drop-loop-self
decreases-Job::drop-loop-self l = weight l.self
