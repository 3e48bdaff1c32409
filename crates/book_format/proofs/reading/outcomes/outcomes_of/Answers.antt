use Rattle.std.proofs.Common.{refl, ap, ◌∙◌, ◌++◌, ◌∷◌, []}
use Rattle.book_format.proofs.Steps.{outcome-refused, outcome-more}
use Rattle.book_format.proofs.reading.outcomes.outcomes_of.Goals as goal

pub returns-in-Err : goal.returns-in-Err
returns-in-Err c =
    outcome-refused c.args.spec.now.run c.args.values.now c.loop-value.outcomes c.loop-value.outcomes c.loop-value.value-index c.value-item.result
    c.loop-value-test.true c.value-item.is refl c.loop-value.invariant c.in-Err.error c.in-Err.ensures

pub loop-value-preserved : goal.loop-value-preserved
loop-value-preserved c =
    outcome-more c.args.spec.now.run c.args.values.now c.loop-value.outcomes c.loop-value.outcomes c.loop-value.value-index c.value-item.result
    c.loop-value-test.true c.value-item.is refl c.loop-value.invariant c.in-Ok.outcome _ (c.in_ok-push.ensures.ok ∙ ap (λ o. c.loop-value.outcomes ++ o ∷ []) c.as_outcome.ensures) c.in-Ok.ensures
