use Rattle.line_moments.proofs.Resuming.{waiters-go-on}
use Rattle.line_moments.proofs.laws.waiters_go_on.Goals as goal

pub returns : goal.returns
returns c = waiters-go-on
