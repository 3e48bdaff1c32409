use Rattle.std.specs.Prelude.{codes}
use Rattle.shown_values.proofs.Joining.{joined-next}
use Rattle.class_values.specs.Expected.{expected_json}
use Rattle.class_values.proofs.expected.push_expectations.Goals as goal

-- an expectation is pushed
pub loop-place-preserved : goal.loop-place-preserved
loop-place-preserved c =
    joined-next (expected_json c.args.rows.now) (codes ",") _ _ _ _ _ _ _ c.loop-place-test.true c.index-expectations-place.is c.loop-place.invariant
    c.in_ok-push_before.ensures c.in_ok-push_expected.ensures
