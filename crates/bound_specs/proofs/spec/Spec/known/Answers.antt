use Rattle.std.proofs.Common.{subst}
use Rattle.bound_specs.specs.Spec.{SpecFile}
use Rattle.bound_specs.specs.Binding.{IsFileAt}
use Rattle.bound_specs.proofs.FileLemmas.{file-of-at, file-always}
use Rattle.bound_specs.proofs.spec.Spec.known.Goals as goal

pub returns-clause-always : goal.returns-clause-always
returns-clause-always c =
    let file = c.args.self.now in
    let at : IsFileAt file.text file = subst (λ (f : SpecFile). IsFileAt f.text f) c.self.view_is c.self.invariant.is_file in
    λ none. file-always file.text file (file-of-at file.text file at none)
