use Rattle.std.proofs.Common.{◌+◌, ◌-◌, length}
use Rattle.fact_books.specs.Runs.{IsMerging}
use Rattle.fact_books.proofs.merging.merge.Given as goal

abbrev pub invariant-runs : goal.invariant-runs
invariant-runs l = IsMerging l.left l.i l.right l.j l.out.items

abbrev pub decreases-runs : goal.decreases-runs
decreases-runs l = (length l.left - l.i) + (length l.right - l.j)
