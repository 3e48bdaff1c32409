use Rattle.std.proofs.Common.{◌≡◌, flat_map, take}
use Rattle.shown_texts.specs.Pages.{row_lines}
use Rattle.shown_texts.proofs.ends.rows_lines.Given as goal

-- the rows passed
abbrev pub invariant-loop-row : goal.invariant-loop-row
invariant-loop-row l = l.lines ≡ flat_map row_lines (take l.row-index l.rows)
