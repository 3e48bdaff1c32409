use Rattle.std.proofs.Common.{subst}
use Rattle.spec_binding.proofs.MemoryLemmas.{Named, file-named}
use Rattle.spec_binding.proofs.laws.refusals_are_named.Goals as goal

pub returns : goal.returns
returns c = λ text tree e told. subst Named told (file-named text tree)
