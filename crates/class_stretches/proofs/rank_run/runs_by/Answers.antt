use Rattle.class_stretches.proofs.Passes.{put-more}
use Rattle.class_stretches.proofs.rank_run.runs_by.Goals as goal

pub loop-stretch-preserved : goal.loop-stretch-preserved
loop-stretch-preserved c =
    let l = c.loop-stretch in
    put-more c.args.list.now c.args.classes l.stretch-index l.low l.all.items c.put_run.new.all.items c.loop-stretch-test.true l.invariant c.in_ok-put_run.ensures
