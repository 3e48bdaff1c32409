use Rattle.std.proofs.Common.{map, take}
use Rattle.std.specs.List.{AllZip}
use Rattle.order_names.specs.Orders.{IsStepNamed}
use Rattle.order_names.proofs.naming.steps_of.Given as goal

-- the names before this one are those of the steps
abbrev pub invariant-loop-place : goal.invariant-loop-place
invariant-loop-place l = AllZip (IsStepNamed l.spec) (take l.place (map (λ p. p.now) l.names)) l.steps.items
