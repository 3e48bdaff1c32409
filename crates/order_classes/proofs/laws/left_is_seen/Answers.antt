use Rattle.order_classes.proofs.Seeing.{left-seen}
use Rattle.order_classes.proofs.laws.left_is_seen.Goals as goal

pub returns : goal.returns
returns c = left-seen
