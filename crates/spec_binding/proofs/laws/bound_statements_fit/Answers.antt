use Rattle.spec_binding.proofs.FitLemmas.{bound-fits}
use Rattle.spec_binding.proofs.laws.bound_statements_fit.Goals as goal

pub returns : goal.returns
returns c = bound-fits
