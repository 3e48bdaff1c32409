use Rattle.rank_facts.proofs.Swaps.{swap-same}
use Rattle.rank_facts.proofs.laws.swap_keeps_worlds.Goals as goal

pub returns : goal.returns
returns c = swap-same
