use Rattle.book_format.proofs.Steps.{fact-refused, fact-more}
use Rattle.book_format.proofs.reading.facts.facts_of.Goals as goal

pub returns-in-Err : goal.returns-in-Err
returns-in-Err c =
    fact-refused c.args.spec.now.run c.args.values.now c.loop-value.facts.items c.as_slice.result.now c.loop-value.value-index c.value-item.result
    c.loop-value-test.true c.value-item.is c.as_slice.ensures.value c.loop-value.invariant c.in-Err.error c.in-Err.ensures

pub loop-value-preserved : goal.loop-value-preserved
loop-value-preserved c =
    fact-more c.args.spec.now.run c.args.values.now c.loop-value.facts.items c.as_slice.result.now c.loop-value.value-index c.value-item.result
    c.loop-value-test.true c.value-item.is c.as_slice.ensures.value c.loop-value.invariant c.in-Ok.fact _ c.in_ok-push.ensures.items c.in-Ok.ensures
