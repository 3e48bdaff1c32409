use Rattle.std.proofs.Common.{take}
use Rattle.lock_queues.specs.Search.{marks, AllPassed}
use Rattle.lock_queues.proofs.ring.next_open.Given as goal

abbrev pub invariant-loop-wait : goal.invariant-loop-wait
invariant-loop-wait l = AllPassed (take l.wait-index l.waits) (marks l.reached) (marks l.passed)
