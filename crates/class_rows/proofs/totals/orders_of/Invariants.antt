use Rattle.std.proofs.Common.{◌≡◌, ◌+◌, drop}
use Rattle.spec_classes.specs.Classes.{total_count}
use Rattle.class_rows.proofs.totals.orders_of.Given as goal

-- the orders counted and those left
abbrev pub invariant-loop-class : goal.invariant-loop-class
invariant-loop-class l = l.orders + total_count (drop l.class-index l.classes) ≡ total_count l.classes
