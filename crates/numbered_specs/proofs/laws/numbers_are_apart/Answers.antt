use Rattle.numbered_specs.proofs.PlaceLemmas.{numbers-apart}
use Rattle.numbered_specs.proofs.laws.numbers_are_apart.Goals as goal

pub returns : goal.returns
returns c = numbers-apart
