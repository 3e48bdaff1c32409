use Rattle.numbered_specs.proofs.NumberLemmas.{AreStepsTo}
use Rattle.numbered_specs.proofs.numbering.step_plans.Given as goal

-- the first steps have theirs
abbrev pub invariant-loop-step : goal.invariant-loop-step
invariant-loop-step l = AreStepsTo l.resources l.spec.run l.step l.steps.items
