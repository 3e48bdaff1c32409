use Rattle.std.specs.Prelude.{codes}
use Rattle.shown_values.specs.Page.{entry_json}
use Rattle.shown_values.proofs.Joining.{joined-next}
use Rattle.shown_values.proofs.show.push_entries.Goals as goal

-- a row is pushed
pub loop-place-preserved : goal.loop-place-preserved
loop-place-preserved c =
    joined-next entry_json (codes ",") _ _ _ _ _ _ _ c.loop-place-test.true c.index-entries-place.is c.loop-place.invariant
    c.in_ok-push_before.ensures c.in_ok-push_tuple.ensures
