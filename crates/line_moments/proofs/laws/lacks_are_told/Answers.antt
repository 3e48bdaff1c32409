use Rattle.line_moments.proofs.Failing.{lacks-told}
use Rattle.line_moments.proofs.laws.lacks_are_told.Goals as goal

pub returns : goal.returns
returns c = lacks-told
