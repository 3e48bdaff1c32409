use Rattle.std.proofs.Common.{subst}
use Rattle.bound_specs.specs.Spec.{SpecFile}
use Rattle.fact_books.specs.Entries.{recorded}
use Rattle.book_audit.specs.Findings.{said, IsFinding}
use Rattle.book_audit.proofs.Least.{finding-same, said-recorded}
use Rattle.book_audit.proofs.auditing.plain_of.Goals as goal

-- the runs say what the book's set has, and the spec is the book's
pub returns : goal.returns
returns c =
    let book = c.args.book.now in
    let told = said c.args.outcomes.now c.args.runs.now in
    let here = subst (λ (f : SpecFile). IsFinding f.run told c.finding_of.result) c.in_ok-spec.ensures c.finding_of.ensures in
    c.told.ensures book
    (finding-same book.file.run told (recorded book.facts) c.finding_of.result
    (said-recorded book.facts c.args.outcomes.now c.args.runs.now c.requires.facts) here)
