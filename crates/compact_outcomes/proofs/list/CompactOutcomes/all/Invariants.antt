use Rattle.std.proofs.Common.{◌≡◌, take}
use Rattle.compact_outcomes.proofs.list.CompactOutcomes.all.Given as goal

-- the outcomes so far
abbrev pub invariant-loop-place : goal.invariant-loop-place
invariant-loop-place l = l.outcomes.items ≡ take l.place l.self
