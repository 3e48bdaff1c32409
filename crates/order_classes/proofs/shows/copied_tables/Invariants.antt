use Rattle.std.proofs.Common.{◌≡◌, ◌++◌, drop}
use Rattle.order_classes.proofs.shows.copied_tables.Given as goal

abbrev pub invariant-loop-rows : goal.invariant-loop-rows
invariant-loop-rows l = l.copies ++ drop l.rows-index l.tables ≡ l.tables
