use Rattle.order_classes.proofs.NotSerial.{letter-exact}
use Rattle.order_classes.proofs.laws.letter_r_is_exact.Goals as goal

pub returns : goal.returns
returns c = letter-exact
