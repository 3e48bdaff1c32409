use Rattle.rank_facts.proofs.TrueFacts.{lines-run}
use Rattle.rank_facts.proofs.laws.lines_run.Goals as goal

pub returns : goal.returns
returns c = lines-run
