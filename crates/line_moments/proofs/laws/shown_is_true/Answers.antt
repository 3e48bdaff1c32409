use Rattle.line_moments.proofs.Showing.{shown-true}
use Rattle.line_moments.proofs.laws.shown_is_true.Goals as goal

pub returns : goal.returns
returns c = shown-true
