use Rattle.std.proofs.Common.{◌≤◌, ◌-◌, length}
use Rattle.fact_books.specs.Sweep.{AllBelow, FillsStretch, leads_of}
use Rattle.fact_books.proofs.filling.fill_block.Given as goal

abbrev pub invariant-loop-done : goal.invariant-loop-done
invariant-loop-done l =
    AllBelow (length l.outcomes) l.done.items × (length l.initial.done.items ≤ length l.done.items) × (length l.done.items ≤ l.last)
    × FillsStretch l.outcomes (leads_of l.shape) l.active l.last l.initial.done.items l.done.items

abbrev pub decreases-loop-done : goal.decreases-loop-done
decreases-loop-done l = l.last - length l.done.items
