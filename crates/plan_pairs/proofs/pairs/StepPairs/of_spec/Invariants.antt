use Rattle.std.proofs.Common.{◌≡◌, map, take}
use Rattle.plan_pairs.specs.Requests.{row_of}
use Rattle.plan_pairs.proofs.pairs.StepPairs.of_spec.Given as goal

-- a row for each step so far
abbrev pub invariant-loop-step : goal.invariant-loop-step
invariant-loop-step l = l.rows.items ≡ map (λ qs. row_of qs l.step-items) (take l.step-index l.step-items)
