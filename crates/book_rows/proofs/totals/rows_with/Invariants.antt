use Rattle.std.proofs.Common.{◌≡◌, ◌+◌, ◌≤◌, drop}
use Rattle.book_rows.specs.Totals.{has_letter, rows_with}
use Rattle.book_rows.proofs.totals.rows_with.Given as goal

abbrev pub invariant-loop-row : goal.invariant-loop-row
invariant-loop-row l =
    (l.count + rows_with (has_letter l.letter) (drop l.row-index l.rows) ≡ rows_with (has_letter l.letter) l.rows) × (l.count ≤ l.row-index)
