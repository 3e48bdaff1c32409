use Rattle.std.proofs.Common.{◌≡◌, ◌++◌, drop, false}
use Rattle.spec_classes.specs.Leading.{led}
use Rattle.spec_classes.proofs.leading.led_by.Given as goal

abbrev pub invariant-loop-step : goal.invariant-loop-step
invariant-loop-step l = record {
  led : l.sent.items ++ led l.spec.run.steps l.world.world (drop l.step-index l.line) ≡ led l.spec.run.steps l.fn.world.world l.line;
  whole : l.world.spent ≡ false;
  marked : l.world.marked ≡ l.fn.world.marked;
  of_spec : l.world.file ≡ l.spec;
}
