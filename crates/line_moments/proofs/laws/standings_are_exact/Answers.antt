use Rattle.line_moments.proofs.Stands.{standings-exact}
use Rattle.line_moments.proofs.laws.standings_are_exact.Goals as goal

pub returns : goal.returns
returns c = standings-exact
