use Rattle.serial_history.proofs.StartsTold.{bound-whole}
use Rattle.serial_history.proofs.laws.specs_are_serial.Goals as goal

pub returns : goal.returns
returns c = bound-whole
