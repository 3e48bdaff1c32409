use Rattle.std.proofs.Common.{◌≡◌, ◌≢◌, ◌<◌, ℕ, true}
use Rattle.lock_queues.specs.Locks.{fits_with}
use Rattle.marked_modes.specs.Held.{mode_in}
use Rattle.marked_modes.proofs.row.ModeRow.fits.Given as goal

abbrev pub invariant-loop-other : goal.invariant-loop-other
invariant-loop-other l = (c : ℕ) → c < l.other → c ≢ l.fn.session → fits_with l.fn.mode (mode_in l.fn.self c) ≡ true
