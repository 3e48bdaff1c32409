use Rattle.std.specs.Prelude.{codes}
use Rattle.shown_values.specs.Page.{begun_json}
use Rattle.shown_values.proofs.Joining.{joined-next}
use Rattle.shown_values.proofs.show.push_begins.Goals as goal

-- a session is pushed
pub loop-place-preserved : goal.loop-place-preserved
loop-place-preserved c =
    joined-next (begun_json c.args.tables.now) (codes ",") _ _ _ _ _ _ _ c.loop-place-test.true c.begun-item.is c.loop-place.invariant
    c.in_ok-push_before.ensures c.in_ok-push_begun.ensures
