use Rattle.asked_classes.specs.Filters.{IsMeant, IsUnmeant}
use Rattle.asked_classes.proofs.FirstLemmas.{first-refused, given-more}
use Rattle.asked_classes.proofs.filters.filters_of.Goals as goal

-- this one is refused
pub returns-in-Err-clause-refused : goal.returns-in-Err-clause-refused
returns-in-Err-clause-refused c =
    let l = c.loop-place in
    first-refused (IsMeant c.args.spec.now c.args.sample) (IsUnmeant c.args.spec.now c.args.sample) c.args.wanted.now l.place _ c.loop-place-test.true l.filters.items l.invariant
    c.in-Err.fault c.in-Err.ensures.unmeant

-- one more is given
pub loop-place-preserved : goal.loop-place-preserved
loop-place-preserved c =
    let l = c.loop-place in
    given-more (IsMeant c.args.spec.now c.args.sample) (IsUnmeant c.args.spec.now c.args.sample) c.args.wanted.now l.place _ c.loop-place-test.true l.filters.items l.invariant
    c.in-Ok.filter c.push.new.self.items c.in-Ok-push.ensures.items
    c.in-Ok.ensures.meant
