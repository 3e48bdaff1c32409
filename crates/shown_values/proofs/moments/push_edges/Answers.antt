use Rattle.std.specs.Prelude.{codes}
use Rattle.shown_values.specs.Moments.{edge_json}
use Rattle.shown_values.proofs.Joining.{joined-at}
use Rattle.shown_values.proofs.moments.push_edges.Goals as goal

-- an edge is pushed
pub loop-place-preserved : goal.loop-place-preserved
loop-place-preserved c =
    joined-at edge_json (codes ",") _ _ _ _ _ _ _ c.loop-place-test.true c.loop-place.invariant
    c.in_ok-push_before.ensures c.in_ok-push_edge.ensures
