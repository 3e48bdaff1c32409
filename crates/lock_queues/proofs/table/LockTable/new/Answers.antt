use Rattle.std.proofs.Common.{◌≡◌, subst, sym}
use Rattle.lock_queues.specs.LockTable.{Locks, no_locks}
use Rattle.lock_queues.specs.Sound.{IsSound}
use Rattle.lock_queues.proofs.Keeping.{empty-sound}
use Rattle.lock_queues.proofs.table.LockTable.new.Goals as goal

pub invariant_of-result : goal.invariant_of-result
invariant_of-result c =
    let e : ◌≡◌ {A = Locks} no_locks (record { held = c.new.result; waits = c.new-2.result.items }) =
    (λ i. record { held = sym c.new.ensures i; waits = sym c.new-2.ensures.items i }) in
    subst IsSound e empty-sound
