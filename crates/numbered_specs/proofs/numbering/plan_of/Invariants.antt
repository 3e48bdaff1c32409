use Rattle.numbered_specs.proofs.NumberLemmas.{IsPlanTo}
use Rattle.numbered_specs.proofs.numbering.plan_of.Given as goal

-- the first requests have their numbers
abbrev pub invariant-loop-number : goal.invariant-loop-number
invariant-loop-number l = IsPlanTo l.resources l.statement l.number l.requests.items
