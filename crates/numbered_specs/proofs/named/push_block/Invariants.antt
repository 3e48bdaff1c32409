use Rattle.numbered_specs.specs.Numbers.{asked_by}
use Rattle.numbered_specs.proofs.AskedLemmas.{AreGiven}
use Rattle.numbered_specs.proofs.named.push_block.Given as goal

-- what the first statements ask for is pushed
abbrev pub invariant-loop-statement : goal.invariant-loop-statement
invariant-loop-statement l = AreGiven asked_by l.statements l.initial.resources.items l.statement-index l.resources.items
