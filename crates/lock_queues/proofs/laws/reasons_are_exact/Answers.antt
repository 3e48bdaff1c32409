use Rattle.lock_queues.proofs.Edges.{reasons-exact}
use Rattle.lock_queues.proofs.laws.reasons_are_exact.Goals as goal

pub returns : goal.returns
returns c = reasons-exact
