use Rattle.numbered_specs.proofs.NumberLemmas.{ArePlansTo}
use Rattle.numbered_specs.proofs.numbering.plans_of.Given as goal

-- the first statements have their plans
abbrev pub invariant-loop-statement : goal.invariant-loop-statement
invariant-loop-statement l = ArePlansTo l.resources l.statements l.statement-index l.plans.items
