use Rattle.std.proofs.Common.{◌≡◌, ◌<◌, ℕ, length, is_some}
use Rattle.lock_queues.specs.LockTable.{look_at}
use Rattle.lock_queues.specs.Search.{marks}
use Rattle.lock_queues.specs.Walks.{next_of}
use Rattle.lock_queues.proofs.told.row_behind.Given as goal

abbrev pub invariant-loop-session : goal.invariant-loop-session
invariant-loop-session l =
    (length l.made ≡ 256) × ((a : ℕ) → a < l.session → marks l.made a ≡ is_some (next_of (look_at l.held) l.waits l.count (marks l.row) a))
