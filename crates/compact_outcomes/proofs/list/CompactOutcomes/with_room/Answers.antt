use Rattle.compact_outcomes.proofs.PieceLemmas.{are-none, told-none}
use Rattle.compact_outcomes.proofs.list.CompactOutcomes.with_room.Goals as goal

pub invariant_of-result : goal.invariant_of-result
invariant_of-result c = are-none _ _ c.in_ok-with_capacity.ensures.items c.in_ok-with_capacity-2.ensures.items

pub returns : goal.returns
returns c = told-none _ _ c.in_ok-with_capacity-2.ensures.items
