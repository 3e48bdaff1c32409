use Rattle.spec_schedules.proofs.Unique.{permutations-ranked}
use Rattle.spec_schedules.proofs.laws.permutations_are_ranked.Goals as goal

pub returns : goal.returns
returns c = permutations-ranked
