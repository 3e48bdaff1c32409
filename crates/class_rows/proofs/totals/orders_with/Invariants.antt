use Rattle.std.proofs.Common.{◌≡◌, ◌+◌, drop}
use Rattle.class_rows.specs.Telling.{has_letter, orders_with}
use Rattle.class_rows.proofs.totals.orders_with.Given as goal

abbrev pub invariant-loop-class : goal.invariant-loop-class
invariant-loop-class l = l.orders + orders_with (has_letter l.letter) (drop l.class-index l.passing) ≡ orders_with (has_letter l.letter) l.passing
