use Rattle.rank_facts.proofs.TrueFacts.{facts-one}
use Rattle.rank_facts.proofs.laws.facts_are_one.Goals as goal

pub returns : goal.returns
returns c = facts-one
