use Rattle.std.proofs.Common.{◌≡◌, ◌++◌, take, map}
use Rattle.spec_reader.specs.Views.{step_tree}
use Rattle.spec_binding.proofs.binding.push_names.Given as goal

abbrev pub invariant-loop-step : goal.invariant-loop-step
invariant-loop-step l = l.names.items ≡ l.fn.names.items ++ map (λ t. t.name) (map step_tree (take l.step-index l.steps))
