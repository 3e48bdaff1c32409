use Rattle.std.proofs.Common.{◌≡◌, map}
use Rattle.bound_specs.specs.Levels.{levelled_block}
use Rattle.spec_binding.proofs.binding.levelled_blocks.Given as goal

abbrev pub invariant-loop-block : goal.invariant-loop-block
invariant-loop-block l = l.all.items ≡ map (levelled_block l.asked) l.yielded
