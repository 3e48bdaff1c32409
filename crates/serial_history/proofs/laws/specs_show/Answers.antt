use Rattle.serial_history.proofs.StartsTold.{bound-shown}
use Rattle.serial_history.proofs.laws.specs_show.Goals as goal

pub returns : goal.returns
returns c = bound-shown
