use Rattle.std.proofs.Common.{◌≡◌, ◌++◌, drop}
use Rattle.lock_queues.specs.LockTable.{look_at}
use Rattle.lock_queues.specs.Sides.{side_edges}
use Rattle.lock_queues.proofs.want.tell_ahead.Given as goal

abbrev pub invariant-loop-other : goal.invariant-loop-other
invariant-loop-other l =
    l.edges.items ++ side_edges (look_at l.held) l.session l.wait l.is_earlier (drop l.other-index l.others)
    ≡ l.fn.edges.items ++ side_edges (look_at l.held) l.session l.wait l.is_earlier l.others
