use Rattle.serial_history.proofs.LockedLines.{spec-whole}
use Rattle.serial_history.proofs.laws.locked_specs_are_whole.Goals as goal

pub returns : goal.returns
returns c = spec-whole
