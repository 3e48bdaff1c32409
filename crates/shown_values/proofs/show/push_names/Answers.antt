use Rattle.std.specs.Prelude.{codes}
use Rattle.shown_values.specs.Strings.{string_json}
use Rattle.shown_values.proofs.Joining.{joined-next}
use Rattle.shown_values.proofs.show.push_names.Goals as goal

-- a name is pushed
pub loop-place-preserved : goal.loop-place-preserved
loop-place-preserved c =
    joined-next string_json (codes ",") _ _ _ _ _ _ _ c.loop-place-test.true c.index-names-place.is c.loop-place.invariant
    c.in_ok-push_before.ensures c.in_ok-push_name.ensures
