use Rattle.order_classes.proofs.Telling.{letters-told}
use Rattle.order_classes.proofs.laws.letters_are_told.Goals as goal

pub returns : goal.returns
returns c = letters-told
