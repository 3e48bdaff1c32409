use Rattle.std.proofs.Common.{◌≡◌, ◌++◌, map, take}
use Rattle.shown_texts.specs.Lanes.{cell}
use Rattle.shown_texts.proofs.notes.put_cells.Given as goal

-- the lines passed are put
abbrev pub invariant-loop-line : goal.invariant-loop-line
invariant-loop-line l = l.cells ≡ l.fn.cells ++ map (cell l.rail) (take l.line-index l.lines)
