use Rattle.std.proofs.Common.{sym, subst, false, ⊎_elim}
use Rattle.program_commands.specs.Testing.{IsFoundOf}
use Rattle.program_commands.proofs.TestLemmas.{same-good, other-bad, missing-bad}
use Rattle.program_commands.proofs.one_spec.compared.Goals as goal

pub returns-in-Same : goal.returns-in-Same
returns-in-Same c = λ files level path name accepted at tested.
    subst (IsFoundOf files level false path) (sym c.found_as.ensures)
    (same-good files level path c.args.bytes.now name accepted at c.args.tested.now tested c.in-Same.is)

pub returns-in-Missing : goal.returns-in-Missing
returns-in-Missing c = λ files level path name accepted at tested.
    subst (IsFoundOf files level false path) (sym c.found_as-in-Missing.ensures)
    (missing-bad files level path c.args.bytes.now name accepted at c.args.tested.now tested c.in-Missing.is)

pub returns-in-Other : goal.returns-in-Other
returns-in-Other c = λ files level path name accepted at tested.
    ⊎_elim
    (λ bad. subst (IsFoundOf files level false path) (sym bad)
    (other-bad files level path c.args.bytes.now name accepted at c.args.tested.now tested _ c.in-Other.is tt))
    (λ memory. subst (IsFoundOf files level false path) (sym memory) tt) c.changed.ensures
