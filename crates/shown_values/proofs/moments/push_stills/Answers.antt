use Rattle.std.specs.Prelude.{codes}
use Rattle.shown_values.specs.Moments.{still_json}
use Rattle.shown_values.proofs.Joining.{joined-next}
use Rattle.shown_values.proofs.moments.push_stills.Goals as goal

-- a session is pushed
pub loop-place-preserved : goal.loop-place-preserved
loop-place-preserved c =
    joined-next still_json (codes ",") _ _ _ _ _ _ _ c.loop-place-test.true c.still-item.is c.loop-place.invariant
    c.in_ok-push_before.ensures c.in_ok-push_still.ensures
