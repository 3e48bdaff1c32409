use Rattle.std.proofs.Common.{◌≡◌, take}
use Rattle.lock_queues.proofs.held.HeldFork.fork.Given as goal

abbrev pub invariant-loop-modes : goal.invariant-loop-modes
invariant-loop-modes l = l.sessions.items ≡ take l.modes-index l.modes-items
