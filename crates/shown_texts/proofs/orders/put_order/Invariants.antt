use Rattle.std.proofs.Common.{◌≡◌, ◌++◌, drop}
use Rattle.shown_texts.specs.Orders.{order_text}
use Rattle.shown_texts.proofs.orders.put_order.Given as goal

-- the steps put and those left
abbrev pub invariant-loop-place : goal.invariant-loop-place
invariant-loop-place l = l.line ++ order_text l.steps (drop l.place l.moments) ≡ l.fn.line ++ order_text l.steps l.moments
