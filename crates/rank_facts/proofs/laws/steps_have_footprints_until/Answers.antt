use Rattle.rank_facts.proofs.Footprints.{footprint-until}
use Rattle.rank_facts.proofs.laws.steps_have_footprints_until.Goals as goal

pub returns : goal.returns
returns c = footprint-until
