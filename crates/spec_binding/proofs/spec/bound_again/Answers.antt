use Rattle.std.proofs.Common.{sym, subst}
use Rattle.bound_specs.specs.Binding.{IsFileOf}
use Rattle.spec_binding.proofs.spec.bound_again.Goals as goal

-- a spec file is refused for want of memory alone
pub not_bound-requires : goal.not_bound-requires
not_bound-requires c =
    let known = c.requires.known in
    c.in-Err.ensures.complete known.0 (subst (λ bytes. IsFileOf bytes known.0) (sym c.as_bytes.ensures.value) known.1)

pub returns-in-Ok : goal.returns-in-Ok
returns-in-Ok c = λ file is. c.in-Ok.ensures.complete file (subst (λ bytes. IsFileOf bytes file) (sym c.as_bytes.ensures.value) is)
