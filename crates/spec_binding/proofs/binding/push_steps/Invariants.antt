use Rattle.std.proofs.Common.{◌≡◌, ◌++◌}
use Rattle.bound_specs.specs.Binding.{numbered}
use Rattle.spec_binding.proofs.binding.push_steps.Given as goal

abbrev pub invariant-loop-block : goal.invariant-loop-block
invariant-loop-block l = l.steps.items ≡ l.fn.steps.items ++ numbered l.session l.yielded
