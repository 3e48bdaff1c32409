use Rattle.machine_model.proofs.RowNumbers.{numbers-new}
use Rattle.machine_model.proofs.laws.numbers_are_new.Goals as goal

pub returns : goal.returns
returns c = numbers-new
