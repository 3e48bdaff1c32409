use Rattle.std.proofs.Common.{sym, ap, ◌∙◌, ◌++◌, ◌==◌, cond, [], ◌∷◌, arith}
use Rattle.bound_specs.specs.Spec.{steps_of}
use Rattle.step_reducer.proofs.Tables.{steps-next, take-past}
use Rattle.step_reducer.proofs.step_table.steps_of.Goals as goal

pub loop-step-preserved : goal.loop-step-preserved
loop-step-preserved c =
    let ss = c.args.spec.now.run.steps in
    let n = c.loop-step.step in
    let i = c.args.session in
    c.in_ok-push_if.ensures
    ∙ (λ k. c.loop-step.invariant k ++ cond (c.session_of.ensures.is k == i) (n ∷ []) [])
    ∙ sym (steps-next i n ss (omega (arith, c.loop-step-test.true, c.steps-step-end.ensures.count)))

pub returns : goal.returns
returns c =
    let ss = c.args.spec.now.run.steps in
    c.loop-step.invariant ∙ ap (steps_of c.args.session 0)
    (take-past ss c.loop-step.step (omega (arith, c.loop-step-test.false, c.steps-step-end.ensures.count)))
