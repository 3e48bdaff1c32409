use Rattle.std.proofs.Common.{ap, sym, ◌∙◌, Err}
use Rattle.binding_model.specs.declared.error.BindErrorKind.TheVariants.{Sql}
use Rattle.bound_specs.specs.Binding.{read_at}
use Rattle.spec_binding.proofs.ReadLemmas.{read-is, read-refused}
use Rattle.spec_findings.proofs.faults.read_piece.Goals as goal

pub returns-in-Ok : goal.returns-in-Ok
returns-in-Ok c = ap (read_at c.args.at) (read-is c.args.text.now _ c.in-Ok.ensures.sound)

pub returns-in_default : goal.returns-in_default
returns-in_default c =
    let why = read-refused c.args.text.now c.in-Err.error c.in-Err.ensures.refused c.in_default.not-NoMemory c.in-Err.ensures.complete in
    rw c.refused.ensures
    (ap (read_at c.args.at) why
    ∙ (λ i. Err (record { kind = Sql c.in-Err.error.kind; offset = sym c.offset_in.ensures i })))
