use Rattle.std.proofs.Common.{◌≡◌, max, drop}
use Rattle.shown_texts.specs.Orders.{widest_from}
use Rattle.shown_texts.proofs.orders.widest.Given as goal

-- the widest of those passed and those left
abbrev pub invariant-loop-number : goal.invariant-loop-number
invariant-loop-number l = max l.most (widest_from l.moments l.number (drop l.number l.names)) ≡ widest_from l.moments 0 l.names
