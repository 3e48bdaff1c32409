use Rattle.class_stretches.proofs.Passes.{counted-next}
use Rattle.class_stretches.proofs.tally.tallies_of.Goals as goal

pub loop-stretch-preserved : goal.loop-stretch-preserved
loop-stretch-preserved c =
    let l = c.loop-stretch in
    counted-next c.args.list.now l.stretch-index l.low l.tallies.items c.count.new.tallies.items c.loop-stretch-test.true l.invariant c.in_ok-count.ensures
