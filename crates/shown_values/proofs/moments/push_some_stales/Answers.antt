use Rattle.std.specs.Prelude.{codes}
use Rattle.shown_values.specs.Moments.{stale_json}
use Rattle.shown_values.proofs.Joining.{joined-next}
use Rattle.shown_values.proofs.moments.push_some_stales.Goals as goal

-- a read is pushed
pub loop-place-preserved : goal.loop-place-preserved
loop-place-preserved c =
    joined-next (stale_json c.args.steps.now) (codes ",") _ _ _ _ _ _ _ c.loop-place-test.true c.index-stales-place.is c.loop-place.invariant
    c.in_ok-push_before.ensures c.in_ok-push_stale.ensures
