use Rattle.class_stretches.proofs.Groups.{groups}
use Rattle.class_stretches.proofs.laws.stretches_are_groups.Goals as goal

pub returns : goal.returns
returns c = record { groups = groups }
