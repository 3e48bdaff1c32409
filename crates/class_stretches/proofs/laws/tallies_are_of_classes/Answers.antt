use Rattle.class_stretches.proofs.Groups.{tallies-of-classes}
use Rattle.class_stretches.proofs.laws.tallies_are_of_classes.Goals as goal

pub returns : goal.returns
returns c = record { tallies = tallies-of-classes }
