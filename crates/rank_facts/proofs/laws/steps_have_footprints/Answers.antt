use Rattle.rank_facts.proofs.Footprints.{footprint}
use Rattle.rank_facts.proofs.laws.steps_have_footprints.Goals as goal

pub returns : goal.returns
returns c = footprint
