use Rattle.std.specs.Prelude.{codes, decimal}
use Rattle.shown_values.proofs.Joining.{joined-at}
use Rattle.shown_values.proofs.show.push_indices.Goals as goal

-- a number is pushed
pub loop-place-preserved : goal.loop-place-preserved
loop-place-preserved c =
    joined-at decimal (codes ",") _ _ _ _ _ _ _ c.loop-place-test.true c.loop-place.invariant
    c.in_ok-push_before.ensures c.in_ok-push_index.ensures
