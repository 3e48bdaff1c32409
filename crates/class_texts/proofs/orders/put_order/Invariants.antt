use Rattle.std.proofs.Common.{◌≡◌, ◌++◌, drop, flat_map}
use Rattle.class_texts.specs.Orders.{behind_blank, step_words}
use Rattle.class_texts.proofs.orders.put_order.Given as goal

-- the steps put and those left
abbrev pub invariant-loop-place : goal.invariant-loop-place
invariant-loop-place l =
    l.line ++ flat_map behind_blank (step_words l.steps l.told l.order l.place (drop l.place l.order))
    ≡ l.fn.line ++ flat_map behind_blank (step_words l.steps l.told l.order 0 l.order)
