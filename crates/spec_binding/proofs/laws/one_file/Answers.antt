use Rattle.bound_specs.proofs.FileLemmas.{one-file, one-file-at}
use Rattle.spec_binding.proofs.laws.one_file.Goals as goal

pub returns : goal.returns
returns c = record { one = one-file; levels = one-file-at }
