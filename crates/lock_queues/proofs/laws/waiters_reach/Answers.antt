use Rattle.lock_queues.proofs.Bounded.{waiters-reach}
use Rattle.lock_queues.proofs.laws.waiters_reach.Goals as goal

pub returns : goal.returns
returns c = waiters-reach
