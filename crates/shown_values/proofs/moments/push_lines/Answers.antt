use Rattle.std.specs.Prelude.{codes}
use Rattle.shown_values.specs.Words.{line_json}
use Rattle.shown_values.proofs.Joining.{joined-next}
use Rattle.shown_values.proofs.moments.push_lines.Goals as goal

-- a line is pushed
pub loop-place-preserved : goal.loop-place-preserved
loop-place-preserved c =
    joined-next (line_json c.args.steps.now) (codes ",") _ _ _ _ _ _ _ c.loop-place-test.true c.index-events-place.is c.loop-place.invariant
    c.in_ok-push_before.ensures c.in_ok-push_line.ensures
