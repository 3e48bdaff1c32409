use Rattle.std.proofs.Common.{◌≡◌, true}
use Rattle.lock_modes.specs.Resource.{resource_at}
use Rattle.machine_model.specs.World.{look_of}
use Rattle.lock_queues.specs.Locks.{all_below, fits_with}
use Rattle.std.proofs.Common.{◌||◌, ◌==◌, ℕ}
use Rattle.step_reducer.proofs.pairs.fits.Given as goal

abbrev pub invariant-loop-other : goal.invariant-loop-other
invariant-loop-other l = all_below l.other (λ (k : ℕ). (k == l.session) || fits_with l.mode (look_of l.world.world k (resource_at l.place))) ≡ true
