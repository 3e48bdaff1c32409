use Rattle.std.proofs.Common.{◌≤◌, ◌-◌, length}
use Rattle.fact_books.specs.Sweep.{AllBelow, FillsStretch, leads_of}
use Rattle.fact_books.proofs.filling.fill.Given as goal

abbrev pub invariant-loop-done : goal.invariant-loop-done
invariant-loop-done l =
    AllBelow (length l.outcomes) l.done.items × (length l.initial.done.items ≤ length l.done.items) × (length l.done.items ≤ l.until)
    × FillsStretch l.outcomes (leads_of l.shape) l.active l.until l.initial.done.items l.done.items

abbrev pub decreases-loop-done : goal.decreases-loop-done
decreases-loop-done l = l.until - length l.done.items
