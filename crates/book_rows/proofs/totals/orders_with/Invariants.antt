use Rattle.std.proofs.Common.{◌≡◌, ◌+◌, drop}
use Rattle.book_rows.specs.Totals.{has_letter, orders_with}
use Rattle.book_rows.proofs.totals.orders_with.Given as goal

abbrev pub invariant-loop-row : goal.invariant-loop-row
invariant-loop-row l = l.orders + orders_with (has_letter l.letter) (drop l.row-index l.rows) ≡ orders_with (has_letter l.letter) l.rows
