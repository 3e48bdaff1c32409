use Rattle.std.proofs.Common.{◌<◌, length}
use Rattle.lock_queues.specs.Locks as locks
use Rattle.lock_queues.specs.LockTable.{look_at}
use Rattle.lock_queues.specs.Rules.{IsSpot, IsRipe}
use Rattle.lock_queues.proofs.queue.next_ripe.Given as goal

abbrev pub invariant-loop-index : goal.invariant-loop-index
invariant-loop-index l = (s : locks.Spot) → IsSpot l.waits s → length s.before < l.index → IsRipe (look_at l.held) s → ⊥
