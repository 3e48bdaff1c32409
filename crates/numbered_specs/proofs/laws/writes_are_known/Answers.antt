use Rattle.numbered_specs.proofs.PlaceLemmas.{writes-known}
use Rattle.numbered_specs.proofs.laws.writes_are_known.Goals as goal

pub returns : goal.returns
returns c = writes-known
