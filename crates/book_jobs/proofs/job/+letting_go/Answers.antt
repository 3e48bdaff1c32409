use Rattle.std.proofs.Common.{◌∙◌, sym, ap, arith}
use Rattle.book_jobs.specs.JobTrees.{weight}
use Rattle.book_jobs.proofs.JobViews.{join-seen, turned, weight-some}
use Rattle.book_jobs.proofs.job.+letting_go.Goals as goal

pub Job::drop-less-self-requires : goal.Job::drop-less-self-requires
Job::drop-less-self-requires t c =
    let few = c.loop-self.invariant in
    (omega (arith, few, c.decreases, ap weight (c.in-Join.is ∙ join-seen c.in-Join.left c.in-Join.right)), tt)

pub Job::drop-loop-self-smaller : goal.Job::drop-loop-self-smaller
Job::drop-loop-self-smaller t c =
    let lighter = c.less-self.ensures in
    omega (arith, lighter, ap weight (c.in-Join.is ∙ join-seen c.in-Join.left c.in-Join.right))

pub Job::drop-loop-self-preserved : goal.Job::drop-loop-self-preserved
Job::drop-loop-self-preserved t c =
    let few = c.loop-self.invariant in
    let lighter = c.less-self.ensures in
    omega (arith, few, lighter, ap weight (c.in-Join.is ∙ join-seen c.in-Join.left c.in-Join.right))

pub less-drop-shard-requires : goal.less-drop-shard-requires
less-drop-shard-requires t c =
    let some = weight-some c.args.left in
    (omega (arith, some, c.decreases, ap weight (c.into_inner-shard.ensures ∙ c.replace.ensures.new)), tt)

pub less-returns-in-Both : goal.less-returns-in-Both
less-returns-in-Both t c =
    turned _ _ c.in-Both.first c.in-Both.rest _ _ (sym c.replace.ensures.old ∙ c.in-Both.ensures)
    (c.replace-shard.ensures.new ∙ join-seen c.in-Both.rest c.args.right) (join-seen c.in-Both.first c.replace-shard.new.self)
