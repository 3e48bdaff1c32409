use Rattle.std.proofs.Common.{◌≡◌, ◌+◌, ◌≤◌, drop}
use Rattle.class_rows.specs.Pages.{rows_with}
use Rattle.class_rows.specs.Telling.{has_letter}
use Rattle.class_rows.proofs.totals.rows_with.Given as goal

abbrev pub invariant-loop-row : goal.invariant-loop-row
invariant-loop-row l =
    (l.count + rows_with (has_letter l.letter) (drop l.row-index l.rows) ≡ rows_with (has_letter l.letter) l.rows) × (l.count ≤ l.row-index)
