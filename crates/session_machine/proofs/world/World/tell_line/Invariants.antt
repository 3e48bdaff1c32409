use Rattle.std.proofs.Common.{◌≡◌, ◌++◌, false, drop}
use Rattle.machine_model.specs.World.{send_all}
use Rattle.line_moments.specs.Moments.{line_moments}
use Rattle.session_machine.proofs.world.World.tell_line.Given as goal

-- what is left of the line comes to the same from here, and what is told with what is left to tell is all
abbrev pub invariant-loop-step : goal.invariant-loop-step
invariant-loop-step l = record {
  world : send_all l.self.file.run.steps l.initial.self.world l.line ≡ send_all l.self.file.run.steps l.self.world (drop l.step-index l.line);
  tells : l.told ++ line_moments l.self.file.run.steps l.self.world (drop l.step-index l.line) ≡ line_moments l.self.file.run.steps l.initial.self.world l.line;
  whole : l.self.spent ≡ false;
  file : l.self.file ≡ l.initial.self.file;
}
