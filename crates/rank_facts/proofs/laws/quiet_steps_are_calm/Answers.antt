use Rattle.rank_facts.proofs.Calm.{quiet-calm}
use Rattle.rank_facts.proofs.laws.quiet_steps_are_calm.Goals as goal

pub returns : goal.returns
returns c = quiet-calm
