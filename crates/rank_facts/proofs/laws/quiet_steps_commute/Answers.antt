use Rattle.rank_facts.proofs.FromQuiet.{quiet-commute}
use Rattle.rank_facts.proofs.laws.quiet_steps_commute.Goals as goal

pub returns : goal.returns
returns c = quiet-commute
