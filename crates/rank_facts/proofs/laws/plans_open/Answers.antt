use Rattle.machine_model.proofs.Looks.{looked-opened}
use Rattle.rank_facts.proofs.laws.plans_open.Goals as goal

pub returns : goal.returns
returns c = looked-opened
