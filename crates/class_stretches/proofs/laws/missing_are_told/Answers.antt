use Rattle.class_stretches.proofs.MissingTold.{missing-told}
use Rattle.class_stretches.proofs.laws.missing_are_told.Goals as goal

pub returns : goal.returns
returns c = record { told = missing-told }
