use Rattle.std.proofs.Common.{◌≡◌, ◌≤◌, take}
use Rattle.marked_modes.specs.Held.{spread}
use Rattle.marked_modes.proofs.picture.are_pictured.Given as goal

-- the rows so far are those that the picture has so far
abbrev pub invariant-loop-place : goal.invariant-loop-place
invariant-loop-place l = (spread (take l.passed l.held) l.before ≡ take l.place l.rows) × (l.before ≤ l.place)
