use Rattle.std.specs.Prelude.{codes}
use Rattle.shown_values.specs.Moments.{change_json}
use Rattle.shown_values.proofs.Joining.{joined-next}
use Rattle.shown_values.proofs.moments.push_changes.Goals as goal

-- a change is pushed
pub loop-place-preserved : goal.loop-place-preserved
loop-place-preserved c =
    joined-next (change_json c.args.tables.now) (codes ",") _ _ _ _ _ _ _ c.loop-place-test.true c.change-item.is c.loop-place.invariant
    c.in_ok-push_before.ensures c.in_ok-push_change.ensures
