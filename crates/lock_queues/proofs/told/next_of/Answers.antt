use Rattle.std.proofs.Common.{sym}
use Rattle.lock_queues.specs.Locks.{waits_for}
use Rattle.lock_queues.specs.LockTable.{look_at}
use Rattle.lock_queues.specs.Rings.{leads_on}
use Rattle.lock_queues.specs.Search.{marks}
use Rattle.lock_queues.proofs.Walking.{first-here}
use Rattle.lock_queues.proofs.told.next_of.Goals as goal

pub returns-then-leads_on : goal.returns-then-leads_on
returns-then-leads_on c =
    sym (first-here (leads_on (waits_for (look_at c.args.held.now) c.args.waits.now) (marks c.args.row.now) c.args.session) c.loop-next.next c.args.count
    c.loop-next-test.true c.loop-next.invariant (sym c.if-leads_on.ensures))
