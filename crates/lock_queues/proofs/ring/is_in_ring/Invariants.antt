use Rattle.std.proofs.Common.{◌≡◌, length}
use Rattle.lock_queues.specs.Locks.{waits_for}
use Rattle.lock_queues.specs.LockTable.{look_at}
use Rattle.lock_queues.specs.Search.{marks}
use Rattle.lock_queues.proofs.Searching.{Searched, unset}
use Rattle.lock_queues.proofs.ring.is_in_ring.Given as goal

abbrev pub invariant-loop-next : goal.invariant-loop-next
invariant-loop-next l = Searched (waits_for (look_at l.held) l.waits) l.waits l.session (marks l.reached) (marks l.passed) × (length l.passed ≡ 256)

abbrev pub decreases-loop-next : goal.decreases-loop-next
decreases-loop-next l = unset l.passed
