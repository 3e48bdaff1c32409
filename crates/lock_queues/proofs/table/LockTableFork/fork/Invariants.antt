use Rattle.std.proofs.Common.{◌≡◌, take}
use Rattle.lock_queues.proofs.table.LockTableFork.fork.Given as goal

abbrev pub invariant-loop-wait : goal.invariant-loop-wait
invariant-loop-wait l = l.waits.items ≡ take l.wait-index l.wait-items
