use Rattle.class_looks.proofs.SeeingLemmas.{expectations-seen}
use Rattle.class_looks.proofs.laws.expectations_are_seen.Goals as goal

pub returns : goal.returns
returns c = expectations-seen
