use Rattle.std.proofs.Common.{◌≡◌, length}
use Rattle.lock_queues.specs.Locks.{waits_for}
use Rattle.lock_queues.specs.LockTable.{look_at}
use Rattle.lock_queues.specs.Search.{marks}
use Rattle.marked_locks.specs.Queued.{waits_of}
use Rattle.marked_locks.proofs.RingLemmas.{Searched, unset}
use Rattle.marked_locks.proofs.ring.is_in_ring.Given as goal

-- who is passed has reached whom it waits for
abbrev pub invariant-loop-next : goal.invariant-loop-next
invariant-loop-next l =
    Searched (waits_for (look_at l.modes.now) (waits_of l.modes.resources l.waits)) l.waits l.session (marks l.reached) (marks l.passed)
    × (length l.passed ≡ 9)

abbrev pub decreases-loop-next : goal.decreases-loop-next
decreases-loop-next l = unset l.passed
