use Rattle.std.proofs.Common.{ap, sym, ◌∙◌, Err}
use Rattle.binding_model.specs.declared.error.BindErrorKind.TheVariants.{Sql}
use Rattle.bound_specs.specs.Binding.{read_at, read_text}
use Rattle.spec_binding.proofs.ReadLemmas.{read-is, read-refused}
use Rattle.spec_binding.proofs.blocks.read_block.Goals as goal

pub returns-in-Ok : goal.returns-in-Ok
returns-in-Ok c = ap (read_at c.args.block.now.at) (ap read_text (sym c.deref.ensures) ∙ read-is c.deref.result.now _ c.in-Ok.ensures.sound)

pub returns-in_default : goal.returns-in_default
returns-in_default c =
    let why = read-refused c.deref.result.now c.in-Err.error c.in-Err.ensures.refused c.in_default.not-NoMemory c.in-Err.ensures.complete in
    rw c.refused.ensures
    (ap (read_at c.args.block.now.at) (ap read_text (sym c.deref.ensures) ∙ why)
    ∙ (λ i. Err (record { kind = Sql c.in-Err.error.kind; offset = sym c.offset_in.ensures i })))
