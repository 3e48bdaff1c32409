use Rattle.farm_headline.proofs.JoinLemmas.{runs-are-true, runs-cover, no-run-is-missing}
use Rattle.farm_headline.proofs.laws.runs_are_true.Goals as goal

pub returns-clause-truth : goal.returns-clause-truth
returns-clause-truth c = runs-are-true

pub returns-clause-covering : goal.returns-clause-covering
returns-clause-covering c = runs-cover

pub returns-clause-missing : goal.returns-clause-missing
returns-clause-missing c = no-run-is-missing
