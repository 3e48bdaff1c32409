use Rattle.std.proofs.Common.{◌≡◌, ◌==◌, ◌&&◌, drop, take}
use Rattle.std.specs.List.{list_any}
use Rattle.lock_queues.specs.Locks.{Spot, holds_up, spots_from, waits_for}
use Rattle.lock_queues.specs.LockTable.{look_at}
use Rattle.marked_locks.specs.Queued.{waits_of}
use Rattle.marked_locks.proofs.ring.waits_for.Given as goal

-- no wait so far makes an edge
abbrev pub invariant-loop-place : goal.invariant-loop-place
invariant-loop-place l =
    waits_for (look_at l.modes.now) (waits_of l.modes.resources l.waits) l.session l.other
    ≡ list_any (λ (s : Spot). (s.wait.session == l.session) && holds_up (look_at l.modes.now) s l.other)
    (spots_from (waits_of l.modes.resources (take l.place l.waits)) (waits_of l.modes.resources (drop l.place l.waits)))
