use Rattle.line_moments.proofs.Leaving.{left-exact}
use Rattle.line_moments.proofs.laws.left_is_exact.Goals as goal

pub returns : goal.returns
returns c = left-exact
