use Rattle.std.proofs.Common.{sym, subst, true}
use Rattle.program_commands.specs.Testing.{IsFoundOf}
use Rattle.program_commands.proofs.TestLemmas.{updated-good}
use Rattle.program_commands.proofs.one_spec.updated.Goals as goal

pub returns-in-Same : goal.returns-in-Same
returns-in-Same g c = λ files level path bytes name at tested.
    subst (IsFoundOf files level true path) (sym c.found_as.ensures) (updated-good files level path bytes name c.args.accepted.now at c.args.tested.now tested)

pub returns-in-Ok-true : goal.returns-in-Ok-true
returns-in-Ok-true g c = λ files level path bytes name at tested.
    subst (IsFoundOf files level true path) (sym c.found_as-in-Ok-true.ensures) (updated-good files level path bytes name c.args.accepted.now at c.args.tested.now tested)
