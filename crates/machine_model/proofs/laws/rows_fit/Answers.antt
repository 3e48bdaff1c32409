use Rattle.machine_model.proofs.Typed.{going-keeps, worlds-fit, rows-seen}
use Rattle.machine_model.proofs.laws.rows_fit.Goals as goal

pub returns-clause-going : goal.returns-clause-going
returns-clause-going c = going-keeps

pub returns-clause-worlds : goal.returns-clause-worlds
returns-clause-worlds c = worlds-fit

pub returns-clause-seen : goal.returns-clause-seen
returns-clause-seen c = rows-seen
