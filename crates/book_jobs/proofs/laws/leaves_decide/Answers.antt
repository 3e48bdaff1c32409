use Rattle.book_jobs.proofs.JobLemmas.{same-leaves}
use Rattle.book_jobs.proofs.laws.leaves_decide.Goals as goal

pub returns : goal.returns
returns c = same-leaves
