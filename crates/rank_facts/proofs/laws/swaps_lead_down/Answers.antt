use Rattle.rank_facts.proofs.Leading.{leads-down}
use Rattle.rank_facts.proofs.laws.swaps_lead_down.Goals as goal

pub returns : goal.returns
returns c = leads-down
