use Rattle.std.proofs.Common.{◌≡◌}
use Rattle.lock_queues.specs.LockTable.{look_at}
use Rattle.lock_queues.specs.Reasons.{edges_below}
use Rattle.lock_queues.proofs.want.edges_of.Given as goal

abbrev pub invariant-loop-session : goal.invariant-loop-session
invariant-loop-session l = l.edges.items ≡ edges_below l.session (look_at l.held) l.spot
