use Rattle.rank_facts.proofs.Leading.{leads-exchanged}
use Rattle.rank_facts.proofs.laws.leads_are_exchanges.Goals as goal

pub returns : goal.returns
returns c = leads-exchanged
