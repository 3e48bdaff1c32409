use Rattle.std.proofs.Common.{◌≡◌, ◌++◌, map, take}
use Rattle.shown_texts.specs.Lanes.{row_text}
use Rattle.shown_texts.proofs.pages.put_row_lines.Given as goal

-- the rows passed are put
abbrev pub invariant-loop-row : goal.invariant-loop-row
invariant-loop-row l = l.lines ≡ l.fn.lines ++ map (row_text l.frame) (take l.row-index l.rows)
