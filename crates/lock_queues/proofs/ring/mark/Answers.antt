use Rattle.std.proofs.Common.{◌≡◌, length, subst, arith}
use Rattle.lock_queues.specs.LockTable.{look_at}
use Rattle.lock_queues.specs.Search.{marks}
use Rattle.lock_queues.proofs.Marking.{MarkedTo, marked-more, marked-all}
use Rattle.lock_queues.proofs.ring.mark.Goals as goal

pub loop-index-preserved : goal.loop-index-preserved
loop-index-preserved c =
    marked-more (look_at c.args.held.now) c.args.waits.now c.args.session c.loop-index.index (marks c.args.reached.now) (marks c.loop-index.reached)
    (marks c.mark_from.new.reached)
    c.at.result c.loop-index.invariant c.at.ensures.there c.at.ensures.place c.mark_from.ensures

pub returns : goal.returns
returns c =
    let look = look_at c.args.held.now in
    let ends : c.loop-index.index ≡ length c.args.waits.now = omega arith in
    marked-all look c.args.waits.now c.args.session (marks c.args.reached.now) (marks c.loop-index.reached)
    (subst (λ k. MarkedTo look c.args.waits.now c.args.session k (marks c.args.reached.now) (marks c.loop-index.reached)) ends c.loop-index.invariant)
