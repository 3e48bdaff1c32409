use Rattle.line_moments.proofs.Asking.{locks-asked}
use Rattle.line_moments.proofs.laws.locks_are_asked.Goals as goal

pub returns : goal.returns
returns c = locks-asked
