use Rattle.std.proofs.Common.{◌≡◌, ◌≤◌}
use Rattle.marked_locks.proofs.LeavingLemmas.{moved}
use Rattle.marked_locks.proofs.leaving.close_gap.Given as goal

-- so far each wait behind the place is moved
abbrev pub invariant-loop-at : goal.invariant-loop-at
invariant-loop-at l = (l.waits ≡ record l.initial.waits { list = moved l.place l.at l.initial.waits.list }) × (l.place ≤ l.at)
