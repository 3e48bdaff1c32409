use Rattle.spec_classes.proofs.Adding.{counts-add-up}
use Rattle.spec_classes.proofs.laws.counts_add_up.Goals as goal

pub returns : goal.returns
returns c = counts-add-up
