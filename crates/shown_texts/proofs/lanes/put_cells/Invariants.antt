use Rattle.std.proofs.Common.{◌≡◌, ◌++◌, flat_map, take}
use Rattle.shown_texts.specs.Lanes.{cell_text}
use Rattle.shown_texts.proofs.lanes.put_cells.Given as goal

-- the lines passed are put
abbrev pub invariant-loop-cell : goal.invariant-loop-cell
invariant-loop-cell l = l.line ≡ l.fn.line ++ flat_map (cell_text l.frame) (take l.cell-index l.cells)
