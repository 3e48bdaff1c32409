use Rattle.std.proofs.Common.{subst}
use Rattle.bound_specs.specs.Spec.{SpecFile}
use Rattle.book_audit.specs.Findings.{IsFinding, said}
use Rattle.book_audit.proofs.sharing.finding_in.Goals as goal

pub returns-in-Ok : goal.returns-in-Ok
returns-in-Ok c = λ file is.
    subst (λ (f : SpecFile). IsFinding f.run (said c.args.outcomes.now c.args.runs.now) c.finding_of.result) (c.in-Ok.ensures file is) c.finding_of.ensures
