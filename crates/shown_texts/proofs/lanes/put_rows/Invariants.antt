use Rattle.std.proofs.Common.{◌≡◌, ◌++◌}
use Rattle.shown_texts.specs.Lanes.{first_rows}
use Rattle.shown_texts.proofs.lanes.put_rows.Given as goal

-- the first rows are put
abbrev pub invariant-loop-row : goal.invariant-loop-row
invariant-loop-row l = l.rows ≡ l.fn.rows ++ first_rows l.left l.lanes l.row
