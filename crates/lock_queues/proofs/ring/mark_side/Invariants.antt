use Rattle.std.proofs.Common.{◌≡◌, ◌||◌, ℕ, take}
use Rattle.lock_queues.specs.Queue as queue
use Rattle.lock_queues.specs.Search.{marks}
use Rattle.lock_queues.specs.LockTable.{look_at}
use Rattle.lock_queues.proofs.ring.mark_side.Given as goal

abbrev pub invariant-loop-other : goal.invariant-loop-other
invariant-loop-other l =
    (b : ℕ) → marks l.reached b ≡ (marks l.fn.reached b || queue.some_holds_up (look_at l.held) l.wait l.is_earlier (take l.other-index l.others) b)
