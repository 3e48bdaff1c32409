use Rattle.lock_queues.specs.LockTable.{look_at}
use Rattle.lock_queues.specs.Search.{marks}
use Rattle.lock_queues.proofs.Marking.{MarkedTo}
use Rattle.lock_queues.proofs.ring.mark.Given as goal

abbrev pub invariant-loop-index : goal.invariant-loop-index
invariant-loop-index l = MarkedTo (look_at l.held) l.waits l.session l.index (marks l.fn.reached) (marks l.reached)
