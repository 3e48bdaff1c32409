use Rattle.std.proofs.Common.{◌-◌, length}
use Rattle.lock_queues.specs.LockTable.{look_at}
use Rattle.lock_queues.specs.Rings.{longest}
use Rattle.lock_queues.proofs.Walking.{Rising}
use Rattle.lock_queues.proofs.told.rows_to.Given as goal

abbrev pub invariant-loop-behind : goal.invariant-loop-behind
invariant-loop-behind l = Rising (look_at l.held) l.waits l.count l.session l.rows.items l.row l.behind

abbrev pub decreases-loop-behind : goal.decreases-loop-behind
decreases-loop-behind l = longest l.count - length l.rows.items
