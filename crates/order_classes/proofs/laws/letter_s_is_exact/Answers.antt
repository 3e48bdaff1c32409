use Rattle.order_classes.proofs.Telling.{letter-s-exact}
use Rattle.order_classes.proofs.laws.letter_s_is_exact.Goals as goal

pub returns : goal.returns
returns c = letter-s-exact
