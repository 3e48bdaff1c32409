use Rattle.std.proofs.Common.{◌≡◌, drop}
use Rattle.std.specs.List.{list_any}
use Rattle.lock_queues.specs.LockTable.{look_at}
use Rattle.marked_locks.specs.Places.{stands}
use Rattle.marked_locks.proofs.queue.is_any_there.Given as goal

-- none of the waits so far is there
abbrev pub invariant-loop-place : goal.invariant-loop-place
invariant-loop-place l =
    list_any (stands (look_at l.modes.now) l.modes.resources l.number l.converting l.whose) l.waits
    ≡ list_any (stands (look_at l.modes.now) l.modes.resources l.number l.converting l.whose) (drop l.place l.waits)
