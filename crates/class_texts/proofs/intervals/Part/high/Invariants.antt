use Rattle.std.proofs.Common.{◌≡◌, ◌≤◌}
use Rattle.class_texts.specs.Intervals.{high_share}
use Rattle.class_texts.proofs.intervals.Part.high.Given as goal

-- what was passed is not far off
abbrev pub invariant-loop-left : goal.invariant-loop-left
invariant-loop-left l = record { same : high_share l.self.whole l.self.part l.left ≡ high_share l.self.whole l.self.part l.fn.left; few : l.left ≤ 1000 }

-- fewer are left
abbrev pub decreases-loop-left : goal.decreases-loop-left
decreases-loop-left l = l.left
