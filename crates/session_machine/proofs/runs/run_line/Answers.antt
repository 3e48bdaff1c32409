use Rattle.std.proofs.Common.{ap, ◌∙◌}
use Rattle.machine_model.specs.World.{outcome_of}
use Rattle.session_machine.specs.Running.{Running}
use Rattle.serial_history.proofs.LockedLines.{bound-serial}
use Rattle.serial_history.proofs.StartsTold.{bound-shown}
use Rattle.session_machine.proofs.runs.run_line.Goals as goal

-- by the laws of the serial order
pub returns-in-Ok-clause-serial : goal.returns-in-Ok-clause-serial
returns-in-Ok-clause-serial c = λ none.
    let spec = c.args.world.now.file.run in
    let line = c.args.line.now in
    let w = c.args.world.now.world in
    record {
      world = w;
      starts = c.requires.started;
      told = bound-serial spec w line c.requires.bound (c.requires.always none) c.requires.started;
      shown = bound-shown spec w line c.requires.bound c.requires.started;
      outcome_is = c.in-Ok.ensures.told ∙ ap (λ (v : Running). outcome_of v.file.run.sessions v.world) c.in_ok-send_line.ensures.sent;
    }
