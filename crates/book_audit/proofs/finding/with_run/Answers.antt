use Rattle.std.proofs.Common.{sym, subst}
use Rattle.fact_books.specs.Runs.{fact_in}
use Rattle.book_audit.specs.Findings.{IsFirstFalse, IsLeast, with_said}
use Rattle.book_audit.proofs.Least.{with-run}
use Rattle.book_audit.proofs.finding.with_run.Goals as goal

pub returns-clause-least : goal.returns-clause-least
returns-clause-least c = λ facts old.
    let spec = c.args.spec.now.run in
    let first = subst (λ end. IsFirstFalse spec (fact_in c.args.outcomes.now c.args.run.tag) c.args.run.first end c.in_ok-found.found)
    c.limit.ensures c.in_ok-found.ensures.answer in
    subst (IsLeast spec (with_said facts c.args.outcomes.now c.args.run)) (sym c.first_of.ensures)
    (with-run spec c.args.outcomes.now c.args.run facts c.args.least c.in_ok-found.found first old)
