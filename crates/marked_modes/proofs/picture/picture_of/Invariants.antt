use Rattle.std.proofs.Common.{◌≡◌, ◌≤◌, take}
use Rattle.marked_modes.specs.Held.{spread}
use Rattle.marked_modes.proofs.picture.picture_of.Given as goal

-- the rows so far are kept
abbrev pub invariant-loop-place : goal.invariant-loop-place
invariant-loop-place l = (spread l.held.items l.before ≡ take l.place l.rows) × (l.before ≤ l.place)
