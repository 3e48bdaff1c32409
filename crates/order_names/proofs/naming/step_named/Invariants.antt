use Rattle.std.proofs.Common.{◌<◌, ℕ}
use Rattle.order_names.specs.Orders.{IsStepNamed}
use Rattle.order_names.proofs.naming.step_named.Given as goal

-- none of the steps before this one has the name
abbrev pub invariant-loop-step : goal.invariant-loop-step
invariant-loop-step l = (k : ℕ) → k < l.step → IsStepNamed l.spec l.name k → ⊥
