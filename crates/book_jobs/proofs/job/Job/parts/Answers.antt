use Rattle.std.proofs.Common.{◌∙◌}
use Rattle.book_jobs.proofs.JobViews.{join-seen}
use Rattle.book_jobs.proofs.job.Job.parts.Goals as goal

pub returns-in-Join : goal.returns-in-Join
returns-in-Join c = c.in-Join.is ∙ join-seen c.in-Join.left c.in-Join.right
