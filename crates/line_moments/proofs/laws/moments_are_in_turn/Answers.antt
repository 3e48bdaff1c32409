use Rattle.line_moments.proofs.Leading.{moments-in-turn}
use Rattle.line_moments.proofs.laws.moments_are_in_turn.Goals as goal

pub returns : goal.returns
returns c = moments-in-turn
