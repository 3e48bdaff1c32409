use Rattle.machine_model.proofs.Waiters.{waiter-reaches}
use Rattle.machine_model.proofs.laws.waiters_reach.Goals as goal

pub returns : goal.returns
returns c = waiter-reaches
