use Rattle.std.proofs.Common.{◌≡◌, ◌++◌, length}
use Rattle.lock_queues.specs.LockTable.{look_at}
use Rattle.lock_queues.specs.Rings.{ring_told}
use Rattle.lock_queues.specs.Walks.{AreRows, walk}
use Rattle.lock_queues.proofs.told.ring_of.Given as goal

abbrev pub invariant-loop-row : goal.invariant-loop-row
invariant-loop-row l = record {
  rows : AreRows (look_at l.held) l.waits l.count l.session l.rows.items;
  told : l.hops.items ++ walk (look_at l.held) l.waits l.count l.session (length l.rows.items) l.current ≡ ring_told l.count (look_at l.held) l.waits l.session;
}

abbrev pub decreases-loop-row : goal.decreases-loop-row
decreases-loop-row l = length l.rows.items
