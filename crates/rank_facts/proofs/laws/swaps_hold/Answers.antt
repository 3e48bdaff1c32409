use Rattle.rank_facts.proofs.Leading.{swaps-hold}
use Rattle.rank_facts.proofs.laws.swaps_hold.Goals as goal

pub returns : goal.returns
returns c = swaps-hold
