use Rattle.spec_reader.specs.Views.{block_tree}
use Rattle.bound_specs.specs.Binding.{main_setup}
use Rattle.spec_binding.proofs.DeclaredLemmas.{declared-map}
use Rattle.spec_binding.proofs.blocks.setups.Goals as goal

pub returns : goal.returns
returns c = rw (declared-map block_tree main_setup c.args.blocks.now c.args.tables.now.items) c.each_setup.ensures
