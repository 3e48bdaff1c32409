use Rattle.std.proofs.Common.{◌+◌, ◌-◌, length}
use Rattle.marked_rows.specs.Kept.{HasBlanks}
use Rattle.marked_rows.proofs.cells.reach.Given as goal

abbrev pub invariant-loop-cells : goal.invariant-loop-cells
invariant-loop-cells l = HasBlanks l.number l.initial.cells l.cells

abbrev pub decreases-loop-cells : goal.decreases-loop-cells
decreases-loop-cells l = l.number + 1 - length l.cells.list
