use Rattle.std.proofs.Common.{◌≡◌, map, take}
use Rattle.plan_pairs.specs.Requests.{requests_in}
use Rattle.plan_pairs.proofs.requests.requests_by_step.Given as goal

-- what the steps so far ask for
abbrev pub invariant-loop-step : goal.invariant-loop-step
invariant-loop-step l = l.steps.items ≡ map requests_in (take l.step l.numbers.plans)
