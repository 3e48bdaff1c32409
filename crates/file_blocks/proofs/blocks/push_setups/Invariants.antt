use Rattle.std.proofs.Common.{◌≡◌, ◌++◌, take, map}
use Rattle.spec_reader.specs.Views.{block_tree}
use Rattle.file_blocks.specs.declared.blocks.Role.TheVariants.{Setup}
use Rattle.file_blocks.specs.Blocks.{sent_in, sent_tree}
use Rattle.file_blocks.proofs.blocks.push_setups.Given as goal

abbrev pub invariant-loop-block : goal.invariant-loop-block
invariant-loop-block l = map sent_tree l.all.items ≡ map sent_tree l.fn.all.items ++ map (sent_in Setup) (map block_tree (take l.block-index l.blocks))
