use Rattle.std.proofs.Common.{◌≡◌, take}
use Rattle.lock_queues.proofs.table.fork_waits.Given as goal

abbrev pub invariant-loop-wait : goal.invariant-loop-wait
invariant-loop-wait l = l.copies.items ≡ take l.wait-index l.waits
