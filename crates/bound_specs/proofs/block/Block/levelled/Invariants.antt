use Rattle.std.proofs.Common.{◌≡◌}
use Rattle.bound_specs.specs.Levels.{levelled_block}
use Rattle.bound_specs.proofs.block.Block.levelled.Given as goal

abbrev pub invariant-loop-statement : goal.invariant-loop-statement
invariant-loop-statement l = l.all.items ≡ levelled_block l.asked l.yielded
