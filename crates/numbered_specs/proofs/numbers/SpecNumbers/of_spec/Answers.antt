use Rattle.std.proofs.Common.{subst}
use Rattle.numbered_specs.specs.Kept.{AreStepPlans}
use Rattle.numbered_specs.proofs.NumberLemmas.{kept}
use Rattle.numbered_specs.proofs.numbers.SpecNumbers.of_spec.Goals as goal

pub invariant_of-result : goal.invariant_of-result
invariant_of-result c =
    kept c.in_ok-resources.resources.items c.args.spec.now.run c.in_ok-steps.steps.items c.in_ok-resources.ensures
    (subst (λ rs. AreStepPlans rs c.args.spec.now.run c.in_ok-steps.steps.items) c.as_slice.ensures.value c.in_ok-steps.ensures)
