use Rattle.farm_headline.proofs.JoinLemmas.{jobs-hold, farms-hold, ranges-hold, runs-hold, joins-hold, runs-decide}
use Rattle.farm_headline.proofs.LeftLemmas.{lefts-hold}
use Rattle.farm_headline.proofs.laws.runs_decide.Goals as goal

pub returns-clause-job : goal.returns-clause-job
returns-clause-job c = jobs-hold

pub returns-clause-farm : goal.returns-clause-farm
returns-clause-farm c = farms-hold

pub returns-clause-left : goal.returns-clause-left
returns-clause-left c = lefts-hold

pub returns-clause-range : goal.returns-clause-range
returns-clause-range c = ranges-hold

pub returns-clause-alone : goal.returns-clause-alone
returns-clause-alone c = runs-hold

pub returns-clause-joins : goal.returns-clause-joins
returns-clause-joins c = joins-hold

pub returns-clause-decide : goal.returns-clause-decide
returns-clause-decide c = runs-decide
