use Rattle.std.specs.Prelude.{codes}
use Rattle.shown_values.specs.Page.{left_json}
use Rattle.shown_values.proofs.Joining.{joined-next}
use Rattle.shown_values.proofs.show.push_tables.Goals as goal

-- a table is pushed
pub loop-place-preserved : goal.loop-place-preserved
loop-place-preserved c =
    joined-next left_json (codes ",") _ _ _ _ _ _ _ c.loop-place-test.true c.left-item.is c.loop-place.invariant
    c.in_ok-push_before.ensures c.in_ok-push_left.ensures
