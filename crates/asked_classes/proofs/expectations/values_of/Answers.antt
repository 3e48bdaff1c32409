use Rattle.asked_classes.specs.Looks.{IsValue, IsNoValue}
use Rattle.asked_classes.proofs.FirstLemmas.{first-refused, given-more}
use Rattle.asked_classes.proofs.expectations.values_of.Goals as goal

-- this one is refused
pub returns-in-Err-clause-refused : goal.returns-in-Err-clause-refused
returns-in-Err-clause-refused c =
    let l = c.loop-place in
    first-refused IsValue IsNoValue c.args.words.now l.place _ c.loop-place-test.true l.values.items l.invariant
    c.in-Err.fault c.in-Err.ensures.refused

-- one more is given
pub loop-place-preserved : goal.loop-place-preserved
loop-place-preserved c =
    let l = c.loop-place in
    given-more IsValue IsNoValue c.args.words.now l.place _ c.loop-place-test.true l.values.items l.invariant
    c.in-Ok.value c.push.new.self.items c.in-Ok-push.ensures.items
    c.in-Ok.ensures.value
