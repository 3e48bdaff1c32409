use Rattle.line_moments.proofs.StillWaiting.{still-waits}
use Rattle.line_moments.proofs.laws.still_waits_are_exact.Goals as goal

pub returns : goal.returns
returns c = still-waits
