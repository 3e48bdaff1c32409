use Rattle.std.proofs.Common.{◌≡◌, false, drop}
use Rattle.machine_model.specs.World.{send_all}
use Rattle.session_machine.proofs.runs.send_line.Given as goal

-- what is left of the line comes to the same from here
abbrev pub invariant-loop-step : goal.invariant-loop-step
invariant-loop-step l = record {
  world : send_all l.world.file.run.steps l.initial.world.world l.steps ≡ send_all l.world.file.run.steps l.world.world (drop l.step-index l.steps);
  whole : l.world.spent ≡ false;
  file : l.world.file ≡ l.initial.world.file;
}
