use Rattle.class_stretches.proofs.Passes.{missing-next}
use Rattle.class_stretches.proofs.missing.missing_in.Goals as goal

pub loop-stretch-preserved : goal.loop-stretch-preserved
loop-stretch-preserved c =
    let l = c.loop-stretch in
    missing-next c.args.list.now l.stretch-index l.low l.missing c.missing_of-missing.result c.loop-stretch-test.true l.invariant
    c.missing_of-missing.ensures.missing c.missing_of-missing.ensures.inside
