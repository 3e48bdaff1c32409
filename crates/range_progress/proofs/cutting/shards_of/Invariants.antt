use Rattle.std.proofs.Common.{◌-◌}
use Rattle.range_progress.specs.Cutting.{AreCut}
use Rattle.range_progress.proofs.cutting.shards_of.Given as goal

-- the shards up to here
abbrev pub invariant-loop-at : goal.invariant-loop-at
invariant-loop-at l = AreCut l.first l.at l.end l.shards.items

abbrev pub decreases-loop-at : goal.decreases-loop-at
decreases-loop-at l = l.end - l.at
