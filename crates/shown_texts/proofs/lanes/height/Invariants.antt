use Rattle.std.proofs.Common.{◌≡◌, max, drop}
use Rattle.shown_texts.specs.Lanes.{height}
use Rattle.shown_texts.proofs.lanes.height.Given as goal

-- the longest of those passed and those left
abbrev pub invariant-loop-lane : goal.invariant-loop-lane
invariant-loop-lane l = max l.most (height (drop l.lane-index l.lanes)) ≡ height l.lanes
