use Rattle.std.proofs.Common.{◌≡◌, ◌≤◌, ◌-◌, ◌++◌, length}
use Rattle.fact_books.specs.Sweep.{copies}
use Rattle.fact_books.proofs.filling.extend.Given as goal

abbrev pub invariant-loop-done : goal.invariant-loop-done
invariant-loop-done l =
    (l.done.items ≡ l.initial.done.items ++ copies l.n (length l.done.items - length l.initial.done.items)) ×
    (length l.initial.done.items ≤ length l.done.items) × (length l.done.items ≤ l.last)

abbrev pub decreases-loop-done : goal.decreases-loop-done
decreases-loop-done l = l.last - length l.done.items
