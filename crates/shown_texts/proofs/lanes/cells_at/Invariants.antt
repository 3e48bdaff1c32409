use Rattle.std.proofs.Common.{◌≡◌, map, take}
use Rattle.shown_texts.specs.Lanes.{cell_at}
use Rattle.shown_texts.proofs.lanes.cells_at.Given as goal

-- what stands in the lanes passed
abbrev pub invariant-loop-lane : goal.invariant-loop-lane
invariant-loop-lane l = l.cells ≡ map (cell_at l.row) (take l.lane-index l.lanes)
