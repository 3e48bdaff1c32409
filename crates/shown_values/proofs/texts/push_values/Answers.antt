use Rattle.std.specs.Prelude.{codes}
use Rattle.transcripts.specs.Text.{value_text}
use Rattle.shown_values.proofs.Joining.{joined-next}
use Rattle.shown_values.proofs.texts.push_values.Goals as goal

-- a value is pushed
pub loop-place-preserved : goal.loop-place-preserved
loop-place-preserved c =
    joined-next value_text (codes "|") _ _ _ _ _ _ _ c.loop-place-test.true c.index-values-place.is c.loop-place.invariant
    c.in_ok-push_before.ensures c.in_ok-push_value.ensures
