use Rattle.serial_history.proofs.Readings.{read-keeps}
use Rattle.serial_history.proofs.laws.readings_keep_data.Goals as goal

pub returns : goal.returns
returns c = read-keeps
