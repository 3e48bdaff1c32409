use Rattle.std.proofs.Common.{◌-◌}
use Rattle.class_stretches.proofs.Places.{IsCopying}
use Rattle.class_stretches.proofs.copying.copy_list.Given as goal

abbrev pub invariant-loop-at : goal.invariant-loop-at
invariant-loop-at l = IsCopying l.fn.list.items l.list.items l.from l.start l.source_end l.place l.at

abbrev pub decreases-loop-at : goal.decreases-loop-at
decreases-loop-at l = l.source_end - l.at
