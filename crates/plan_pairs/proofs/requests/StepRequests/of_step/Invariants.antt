use Rattle.std.proofs.Common.{◌≡◌, take}
use Rattle.numbered_specs.specs.Numbers.{plans_of}
use Rattle.plan_pairs.specs.Requests.{requests_in}
use Rattle.plan_pairs.proofs.requests.StepRequests.of_step.Given as goal

-- the requests of the statements so far
abbrev pub invariant-loop-statement : goal.invariant-loop-statement
invariant-loop-statement l = l.requests.items ≡ requests_in (take l.statement (plans_of l.numbers.plans l.fn.step))
