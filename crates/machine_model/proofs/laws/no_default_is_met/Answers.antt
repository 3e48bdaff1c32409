use Rattle.machine_model.proofs.Takings.{no-default}
use Rattle.machine_model.proofs.laws.no_default_is_met.Goals as goal

pub returns : goal.returns
returns c = no-default
