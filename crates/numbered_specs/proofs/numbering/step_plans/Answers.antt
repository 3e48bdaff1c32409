use Rattle.std.proofs.Common.{sym, subst, arith}
use Rattle.bound_specs.specs.Spec.{no_step}
use Rattle.numbered_specs.specs.Numbers.{asked_in}
use Rattle.numbered_specs.specs.Kept.{AreThere}
use Rattle.numbered_specs.proofs.NumberLemmas.{there-in, steps-push}
use Rattle.numbered_specs.proofs.numbering.step_plans.Goals as goal

pub plans_of-requires-clause-there : goal.plans_of-requires-clause-there
plans_of-requires-clause-there c =
    let count = c.steps-step-end.ensures.count in
    let lt = c.loop-step-test.true in
    subst (λ ss. AreThere c.args.resources.now (asked_in ss)) (sym c.statements.ensures.are)
    (there-in c.args.resources.now c.args.spec.now.run c.loop-step.step no_step (omega (arith, count, lt)) c.requires)

pub loop-step-preserved : goal.loop-step-preserved
loop-step-preserved c =
    let count = c.steps-step-end.ensures.count in
    let lt = c.loop-step-test.true in
    rw (c.in_ok-push.ensures.items)
    (steps-push c.args.resources.now c.args.spec.now.run c.loop-step.step c.loop-step.steps.items c.statements.result.now no_step _
    (omega (arith, count, lt)) c.statements.ensures.are c.in_ok-plans_of.ensures c.loop-step.invariant)
