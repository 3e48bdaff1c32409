use Rattle.std.proofs.Common.{◌≡◌, ◌≤◌}
use Rattle.class_texts.specs.Intervals.{low_share}
use Rattle.class_texts.proofs.intervals.Part.low.Given as goal

-- what was passed is not far off
abbrev pub invariant-loop-share : goal.invariant-loop-share
invariant-loop-share l = record { same : low_share l.self.whole l.self.part l.share ≡ low_share l.self.whole l.self.part l.fn.from; few : l.share ≤ 1000 }

-- fewer are left
abbrev pub decreases-loop-share : goal.decreases-loop-share
decreases-loop-share l = l.share
