use Rattle.std.proofs.Common.{◌≡◌}
use Rattle.bound_specs.specs.Walking.{steps_from}
use Rattle.bound_specs.proofs.walking.step_from.Given as goal

abbrev pub invariant-loop-k : goal.invariant-loop-k
invariant-loop-k l = steps_from l.session l.from l.steps ≡ steps_from l.session l.k l.steps
