use Rattle.std.proofs.Common.{◌<◌, length}
use Rattle.lock_queues.specs.Locks as locks
use Rattle.lock_queues.specs.LockTable.{look_at}
use Rattle.lock_queues.specs.Rules.{IsRipe, IsSpot}
use Rattle.marked_locks.specs.Queued.{waits_of}
use Rattle.marked_locks.proofs.queue.next_ripe.Given as goal

-- none of the waits so far is ripe
abbrev pub invariant-loop-place : goal.invariant-loop-place
invariant-loop-place l =
    (s : locks.Spot) → IsSpot (waits_of l.modes.resources l.waits) s → length s.before < l.place → IsRipe (look_at l.modes.now) s → ⊥
