use Rattle.serial_history.proofs.StartsTold.{bound-heir}
use Rattle.serial_history.proofs.laws.specs_have_heirs.Goals as goal

pub returns : goal.returns
returns c = bound-heir
