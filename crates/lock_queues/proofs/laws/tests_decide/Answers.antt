use Rattle.lock_queues.proofs.Bounded.{tests-decide}
use Rattle.lock_queues.proofs.laws.tests_decide.Goals as goal

pub returns : goal.returns
returns c = tests-decide
