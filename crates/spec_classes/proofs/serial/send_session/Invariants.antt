use Rattle.std.proofs.Common.{◌≡◌, false, length}
use Rattle.bound_specs.specs.Walking.{steps_from}
use Rattle.machine_model.specs.World.{send_all}
use Rattle.spec_classes.specs.Serial.{whole}
use Rattle.spec_classes.proofs.serial.send_session.Given as goal

abbrev pub invariant-loop-step : goal.invariant-loop-step
invariant-loop-step l = record {
  sent : send_all l.fn.world.file.run.steps l.world.world (steps_from l.session l.next l.fn.world.file.run.steps) ≡ whole l.fn.world.file.run l.fn.world.world l.session;
  whole : l.world.spent ≡ false;
  marked : l.world.marked ≡ l.fn.world.marked;
  seen : l.world.seen ≡ l.fn.world.seen;
  of_spec : l.world.file ≡ l.fn.world.file;
}

abbrev pub decreases-loop-step : goal.decreases-loop-step
decreases-loop-step l = length (steps_from l.session l.next l.fn.world.file.run.steps)
