use Rattle.rank_facts.proofs.Mutual.{quiet-mutual}
use Rattle.rank_facts.proofs.laws.quiet_is_mutual.Goals as goal

pub returns : goal.returns
returns c = quiet-mutual
