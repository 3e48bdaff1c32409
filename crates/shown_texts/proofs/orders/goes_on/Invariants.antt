use Rattle.std.proofs.Common.{◌≡◌, drop}
use Rattle.shown_texts.specs.Orders.{goes_on}
use Rattle.shown_texts.proofs.orders.goes_on.Given as goal

-- none of those passed decides
abbrev pub invariant-loop-moment : goal.invariant-loop-moment
invariant-loop-moment l = goes_on l.mark l.session (drop l.moment-index l.moments) ≡ goes_on l.mark l.session l.moments
