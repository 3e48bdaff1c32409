use Rattle.class_stretches.proofs.Groups.{none-missing}
use Rattle.class_stretches.proofs.laws.none_is_missing.Goals as goal

pub returns : goal.returns
returns c = record { known = none-missing }
