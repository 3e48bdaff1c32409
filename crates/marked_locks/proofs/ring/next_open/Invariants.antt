use Rattle.std.proofs.Common.{◌≡◌, ℕ, take, true}
use Rattle.lock_queues.specs.Search.{marks}
use Rattle.marked_locks.proofs.RingLemmas.{is_among}
use Rattle.marked_locks.proofs.ring.next_open.Given as goal

-- of the waits so far each session that is reached is passed
abbrev pub invariant-loop-place : goal.invariant-loop-place
invariant-loop-place l = (b : ℕ) → is_among (take l.place l.waits) b ≡ true → marks l.reached b ≡ true → marks l.passed b ≡ true
