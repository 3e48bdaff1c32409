use Rattle.std.specs.Prelude.{codes}
use Rattle.shown_values.specs.Moments.{moment_json}
use Rattle.shown_values.proofs.Joining.{joined-next}
use Rattle.shown_values.proofs.moments.push_moments.Goals as goal

-- a moment is pushed
pub loop-place-preserved : goal.loop-place-preserved
loop-place-preserved c =
    joined-next (moment_json c.args.tables.now c.args.steps.now) (codes ",") _ _ _ _ _ _ _ c.loop-place-test.true c.moment-item.is c.loop-place.invariant
    c.in_ok-push_before.ensures c.in_ok-push_moment.ensures
