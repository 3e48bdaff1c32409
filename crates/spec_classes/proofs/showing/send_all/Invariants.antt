use Rattle.std.proofs.Common.{◌≡◌, drop}
use Rattle.machine_model.specs.World.{send_all}
use Rattle.spec_classes.proofs.showing.send_all.Given as goal

abbrev pub invariant-loop-step : goal.invariant-loop-step
invariant-loop-step l = record {
  sent : send_all l.fn.world.file.run.steps l.world.world (drop l.step-index l.line) ≡ send_all l.fn.world.file.run.steps l.fn.world.world l.line;
  marked : l.world.marked ≡ l.fn.world.marked;
  of_spec : l.world.file ≡ l.fn.world.file;
}
