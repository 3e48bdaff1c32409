use Rattle.std.proofs.Common.{take}
use Rattle.class_commands.specs.Opened.{AreOrdersOf}
use Rattle.class_commands.proofs.opened.orders_of.Given as goal

-- the orders of the classes passed
abbrev pub invariant-loop-row : goal.invariant-loop-row
invariant-loop-row l = AreOrdersOf l.spec.text l.path l.spec (take l.row-index l.rows) l.orders.items
