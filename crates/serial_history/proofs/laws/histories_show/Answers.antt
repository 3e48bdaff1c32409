use Rattle.serial_history.proofs.Shown.{line-shown}
use Rattle.serial_history.proofs.laws.histories_show.Goals as goal

pub returns : goal.returns
returns c = line-shown
