use Rattle.serial_history.proofs.LockedLines.{spec-serializable}
use Rattle.serial_history.proofs.laws.serializable_stays_whole.Goals as goal

pub returns : goal.returns
returns c = spec-serializable
