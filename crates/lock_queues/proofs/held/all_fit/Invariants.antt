use Rattle.std.proofs.Common.{◌≡◌, ◌≢◌, ℕ, ◌<◌, true}
use Rattle.lock_modes.specs.Resource.{resource_at}
use Rattle.lock_queues.specs.Locks.{fits_with}
use Rattle.lock_queues.specs.Records.{held_by}
use Rattle.lock_queues.proofs.held.all_fit.Given as goal

abbrev pub invariant-loop-other : goal.invariant-loop-other
invariant-loop-other l = (c : ℕ) → c < l.other → c ≢ l.session → fits_with l.mode (held_by l.sessions (c, resource_at l.place)) ≡ true
