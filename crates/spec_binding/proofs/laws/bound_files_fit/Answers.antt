use Rattle.spec_binding.proofs.FileFitLemmas.{files-fit, files-fit-at}
use Rattle.spec_binding.proofs.laws.bound_files_fit.Goals as goal

pub returns : goal.returns
returns c = record { levels = files-fit-at; fit = files-fit }
