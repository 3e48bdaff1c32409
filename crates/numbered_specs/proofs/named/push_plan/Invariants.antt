use Rattle.numbered_specs.proofs.AskedLemmas.{AreAsked}
use Rattle.numbered_specs.proofs.named.push_plan.Given as goal

-- the first requests are pushed
abbrev pub invariant-loop-number : goal.invariant-loop-number
invariant-loop-number l = AreAsked l.statement l.initial.resources.items l.number l.resources.items
