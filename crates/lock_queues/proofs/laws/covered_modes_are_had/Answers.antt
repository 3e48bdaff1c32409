use Rattle.lock_queues.proofs.Bounded.{covered-had}
use Rattle.lock_queues.proofs.laws.covered_modes_are_had.Goals as goal

pub returns : goal.returns
returns c = covered-had
