use Rattle.machine_model.proofs.Levels.{always-tasks}
use Rattle.machine_model.proofs.laws.levels_change_nothing.Goals as goal

pub returns : goal.returns
returns c = always-tasks
