use Rattle.rank_facts.proofs.Swaps.{fewer-falls}
use Rattle.rank_facts.proofs.laws.chains_end.Goals as goal

pub returns : goal.returns
returns c = fewer-falls
