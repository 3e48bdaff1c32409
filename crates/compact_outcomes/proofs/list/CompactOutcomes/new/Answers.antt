use Rattle.compact_outcomes.proofs.PieceLemmas.{are-none, told-none}
use Rattle.compact_outcomes.proofs.list.CompactOutcomes.new.Goals as goal

pub invariant_of-result : goal.invariant_of-result
invariant_of-result c = are-none _ _ c.new.ensures.items c.new-2.ensures.items

pub returns : goal.returns
returns c = told-none _ _ c.new-2.ensures.items
