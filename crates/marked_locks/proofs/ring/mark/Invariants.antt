use Rattle.std.proofs.Common.{take}
use Rattle.lock_queues.specs.Locks.{waits_for}
use Rattle.lock_queues.specs.LockTable.{look_at}
use Rattle.lock_queues.specs.Search.{marks}
use Rattle.marked_locks.specs.Queued.{waits_of}
use Rattle.marked_locks.proofs.RingLemmas.{Marked}
use Rattle.marked_locks.proofs.ring.mark.Given as goal

-- of the waits so far the sessions that this one waits for are marked
abbrev pub invariant-loop-place : goal.invariant-loop-place
invariant-loop-place l =
    Marked (take l.place l.waits) (waits_for (look_at l.modes.now) (waits_of l.modes.resources l.waits) l.session) (marks l.fn.reached) (marks l.reached)
