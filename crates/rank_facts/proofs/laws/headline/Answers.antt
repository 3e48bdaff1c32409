use Rattle.rank_facts.proofs.TrueValues.{tell-the-machine}
use Rattle.rank_facts.proofs.laws.headline.Goals as goal

pub returns : goal.returns
returns c = tell-the-machine
