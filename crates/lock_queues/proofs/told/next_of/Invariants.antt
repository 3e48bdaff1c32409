use Rattle.std.proofs.Common.{◌≡◌, None}
use Rattle.lock_queues.specs.Locks.{waits_for}
use Rattle.lock_queues.specs.LockTable.{look_at}
use Rattle.lock_queues.specs.Rings.{first_below, leads_on}
use Rattle.lock_queues.specs.Search.{marks}
use Rattle.lock_queues.proofs.told.next_of.Given as goal

abbrev pub invariant-loop-next : goal.invariant-loop-next
invariant-loop-next l = first_below l.next (leads_on (waits_for (look_at l.held) l.waits) (marks l.row) l.session) ≡ None
