use Rattle.line_moments.proofs.Losing.{moments-lack}
use Rattle.line_moments.proofs.laws.moments_lack.Goals as goal

pub returns : goal.returns
returns c = moments-lack
