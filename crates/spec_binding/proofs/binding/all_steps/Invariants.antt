use Rattle.std.proofs.Common.{◌≡◌, length, map}
use Rattle.bound_specs.specs.Binding.{all_steps}
use Rattle.spec_binding.specs.Bindings.{bound_session}
use Rattle.spec_binding.proofs.binding.all_steps.Given as goal

abbrev pub invariant-loop-session : goal.invariant-loop-session
invariant-loop-session l = record {
  steps : l.steps.items ≡ all_steps 0 (map bound_session l.yielded);
  setups : l.setups.items ≡ map (λ s. s.setup) (map bound_session l.yielded);
  number : l.number ≡ length l.yielded;
}
