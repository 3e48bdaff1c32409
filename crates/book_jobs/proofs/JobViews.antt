-- A join as the code sees it, and how jobs get lighter.
use Rattle.std.proofs.Common.{◌≡◌, refl, ap, ◌<◌, ◌≤◌, arith}
use Rattle.book_jobs.specs.declared.job.Job.{Job, Join, Run, Join', more_of-Job, end_of-Job}
use Rattle.book_jobs.specs.declared.job.Job.TheBlock.{hidden-the_row-Job-0}
use denote.Hole.Carrier.{hidden}
use Rattle.book_jobs.specs.JobTrees.{join_of, weight}

-- it is the join of the two jobs in its boxes
pub join-seen : (a b : Job) → Join a b ≡ join_of a b
unfolding hidden-the_row-Job-0 hidden
join-seen a b = refl

-- turning a join makes it lighter
pub turned : (left right first rest inner result : Job) → left ≡ join_of first rest → inner ≡ join_of rest right → result ≡ join_of first inner
    → weight result < weight (join_of left right)
turned left right first rest inner result a b c = omega (arith, ap weight a, ap weight b, ap weight c)

pub weight-some : (j : Job) → 1 ≤ weight j
weight-some (Run shard reduce) = omega arith
weight-some (Join' _ (more_of-Job a end_of-Job) _ (more_of-Job b end_of-Job)) = omega arith
