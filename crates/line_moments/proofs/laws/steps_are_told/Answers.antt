use Rattle.line_moments.proofs.Resuming.{steps-told}
use Rattle.line_moments.proofs.laws.steps_are_told.Goals as goal

pub returns : goal.returns
returns c = steps-told
