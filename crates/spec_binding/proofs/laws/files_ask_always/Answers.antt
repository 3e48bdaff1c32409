use Rattle.bound_specs.proofs.FileLemmas.{file-always}
use Rattle.spec_binding.proofs.laws.files_ask_always.Goals as goal

pub returns : goal.returns
returns c = file-always
