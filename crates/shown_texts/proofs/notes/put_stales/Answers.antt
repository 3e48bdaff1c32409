use Rattle.shown_texts.specs.Lanes.{stale_notes}
use Rattle.shown_texts.proofs.ListLemmas.{flat-on}
use Rattle.shown_texts.proofs.notes.put_stales.Goals as goal

pub loop-stale-preserved : goal.loop-stale-preserved
loop-stale-preserved c =
    flat-on (stale_notes c.args.frame.now c.args.steps.now c.args.writer c.args.session c.args.rail) c.args.stales.now c.loop-stale.stale-index c.stale-item.result
    c.loop-stale.cells c.put_stale.new.cells _ c.loop-stale-test.true c.stale-item.is c.in_ok-put_stale.ensures c.loop-stale.invariant
