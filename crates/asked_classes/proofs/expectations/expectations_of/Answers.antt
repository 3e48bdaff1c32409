use Rattle.std.proofs.Common.{subst}
use Rattle.asked_classes.specs.Looks.{IsExpectationAsked, IsNoExpectation}
use Rattle.asked_classes.proofs.FirstLemmas.{first-refused, given-more}
use Rattle.asked_classes.proofs.expectations.expectations_of.Goals as goal

-- this one is refused
pub returns-in-Err-clause-refused : goal.returns-in-Err-clause-refused
returns-in-Err-clause-refused c =
    let l = c.loop-place in
    first-refused (IsExpectationAsked c.args.tables.now) (IsNoExpectation c.args.tables.now) c.args.wanted.now l.place _ c.loop-place-test.true l.asked.items l.invariant
    c.in-Err.fault
    (subst (λ w. IsNoExpectation c.args.tables.now w c.in-Err.fault) c.index-wanted-place.is c.in-Err.ensures.refused)

-- one more is given
pub loop-place-preserved : goal.loop-place-preserved
loop-place-preserved c =
    let l = c.loop-place in
    given-more (IsExpectationAsked c.args.tables.now) (IsNoExpectation c.args.tables.now) c.args.wanted.now l.place _ c.loop-place-test.true l.asked.items l.invariant
    c.in-Ok.expectation c.push.new.self.items c.in-Ok-push.ensures.items
    (subst (λ w. IsExpectationAsked c.args.tables.now w c.in-Ok.expectation) c.index-wanted-place.is c.in-Ok.ensures.expected)
