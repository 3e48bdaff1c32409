use Rattle.std.proofs.Common.{◌≡◌, ◌≤◌, length, min, drop}
use Rattle.order_classes.specs.Order.{tables_cmp}
use Rattle.order_classes.proofs.order.tables_order.Given as goal

-- those from here on are told as all are
abbrev pub invariant-loop-place : goal.invariant-loop-place
invariant-loop-place l =
    (l.place-end ≡ min (length l.a) (length l.b)) × (l.place ≤ l.place-end)
    × (tables_cmp (drop l.place l.a) (drop l.place l.b) ≡ tables_cmp l.a l.b)
