use Rattle.std.proofs.Common.{◌≡◌, map}
use Rattle.bound_specs.specs.Levels.{levelled_step}
use Rattle.spec_binding.proofs.binding.levelled_steps.Given as goal

abbrev pub invariant-loop-step : goal.invariant-loop-step
invariant-loop-step l = l.all.items ≡ map (levelled_step l.asked) l.yielded
