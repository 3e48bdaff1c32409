use Rattle.std.proofs.Common.{◌≡◌, ◌++◌, map, drop}
use Rattle.bound_specs.specs.Spec.{Step}
use Rattle.spec_commands.proofs.showing.sessions_of_steps.Given as goal

-- with those that are left they are all
abbrev pub invariant-loop-step : goal.invariant-loop-step
invariant-loop-step l = l.sessions.items ++ map (λ (s : Step). s.session) (drop l.step l.spec.run.steps) ≡ map (λ (s : Step). s.session) l.spec.run.steps
