use Rattle.std.proofs.Common.{◌-◌, length}
use Rattle.fact_books.specs.Sweep.{IsKeeping, IsAdmitting}
use Rattle.book_stretches.proofs.sweep.active_at.Given as goal

abbrev pub invariant-loop-i : goal.invariant-loop-i
invariant-loop-i l = IsKeeping l.active l.i l.now.items l.rank

abbrev pub invariant-loop-after : goal.invariant-loop-after
invariant-loop-after l = IsAdmitting l.active l.runs l.now.items l.next l.after l.rank

abbrev pub decreases-loop-after : goal.decreases-loop-after
decreases-loop-after l = length l.runs - l.after
