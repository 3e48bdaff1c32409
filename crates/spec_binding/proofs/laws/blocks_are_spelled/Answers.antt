use Rattle.spec_binding.proofs.ReadLemmas.{spelled-is, refused-is, fault-not}
use Rattle.spec_binding.proofs.laws.blocks_are_spelled.Goals as goal

pub returns : goal.returns
returns c = record { spelled = spelled-is; refused = refused-is; memory = fault-not }
