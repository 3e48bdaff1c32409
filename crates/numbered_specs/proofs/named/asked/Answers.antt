use Rattle.std.proofs.Common.{arith}
use Rattle.numbered_specs.proofs.AskedLemmas.{step-push}
use Rattle.numbered_specs.proofs.named.asked.Goals as goal

pub loop-step-preserved : goal.loop-step-preserved
loop-step-preserved c =
    let count = c.steps-step-end.ensures.count in
    let lt = c.loop-step-test.true in
    step-push c.args.spec.now.run _ _ _ c.loop-step.step c.statements-in-loop-step.result.now (omega (arith, count, lt)) c.statements-in-loop-step.ensures.are
    c.in_ok-push_block-3.ensures c.loop-step.invariant
