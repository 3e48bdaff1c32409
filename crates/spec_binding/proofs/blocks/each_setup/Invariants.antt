use Rattle.std.proofs.Common.{◌≡◌, drop}
use Rattle.spec_reader.specs.Views.{block_tree}
use Rattle.bound_specs.specs.Binding.{then_more, declared, main_setup}
use Rattle.spec_binding.proofs.blocks.each_setup.Given as goal

abbrev pub invariant-loop-block : goal.invariant-loop-block
invariant-loop-block l =
    then_more l.all.items (declared (λ tables b. main_setup tables (block_tree b)) l.tables.items (drop l.block-index l.blocks))
    ≡ declared (λ tables b. main_setup tables (block_tree b)) l.fn.tables.items l.blocks
