use Rattle.asked_classes.specs.Looks.{IsLookAsked, IsNoLookAsked}
use Rattle.asked_classes.proofs.FirstLemmas.{first-refused, given-more}
use Rattle.asked_classes.proofs.looks.looks_of.Goals as goal

-- this one is refused
pub returns-in-Err-clause-refused : goal.returns-in-Err-clause-refused
returns-in-Err-clause-refused c =
    let l = c.loop-place in
    first-refused (IsLookAsked c.args.tables.now) (IsNoLookAsked c.args.tables.now) c.args.texts.now l.place _ c.loop-place-test.true l.looks.items l.invariant
    c.in-Err.fault c.in-Err.ensures.refused

-- one more is given
pub loop-place-preserved : goal.loop-place-preserved
loop-place-preserved c =
    let l = c.loop-place in
    given-more (IsLookAsked c.args.tables.now) (IsNoLookAsked c.args.tables.now) c.args.texts.now l.place _ c.loop-place-test.true l.looks.items l.invariant
    c.in-Ok.look c.push.new.self.items c.in-Ok-push.ensures.items
    c.in-Ok.ensures.look
