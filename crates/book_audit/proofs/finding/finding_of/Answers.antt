use Rattle.book_audit.specs.Findings.{said}
use Rattle.book_audit.proofs.finding.finding_of.Goals as goal

pub returns-in-Ok : goal.returns-in-Ok
returns-in-Ok c = c.found.ensures c.args.spec.now.run (said c.args.outcomes.now c.args.runs.now) c.least_false.ensures
