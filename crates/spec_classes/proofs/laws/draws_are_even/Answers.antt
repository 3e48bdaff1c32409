use Rattle.std.proofs.Common.{◌^◌}
use Rattle.spec_classes.proofs.Even.{even}
use Rattle.spec_classes.proofs.laws.draws_are_even.Goals as goal

pub returns : goal.returns
returns c bound rank inside = even (2 ^ 64) bound rank inside
