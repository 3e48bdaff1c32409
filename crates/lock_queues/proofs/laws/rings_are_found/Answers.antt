use Rattle.lock_queues.proofs.Finding.{rings-found}
use Rattle.lock_queues.proofs.laws.rings_are_found.Goals as goal

pub returns : goal.returns
returns c = rings-found
