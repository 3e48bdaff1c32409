use Rattle.machine_model.proofs.Owned.{lines-own}
use Rattle.machine_model.proofs.laws.outcomes_are_own.Goals as goal

pub returns : goal.returns
returns c = lines-own
