use Rattle.std.proofs.Common.{◌≤◌, ◌-◌, length}
use Rattle.fact_books.specs.Books.{facts_in}
use Rattle.fact_books.specs.Sweep.{IsDone}
use Rattle.fact_books.specs.Sweep.{AllBelow, IsSweeping, leads_of, values_of}
use Rattle.fact_books.proofs.sweep.sweep.Given as goal

abbrev pub invariant-loop-alloc : goal.invariant-loop-alloc
invariant-loop-alloc l =
    IsSweeping l.outcomes l.runs (length l.done.items) l.active.items l.next × AllBelow (length l.outcomes) l.done.items × (length l.done.items ≤ l.ranks)
    × IsDone (facts_in l.outcomes l.runs) (leads_of l.shape) (values_of l.outcomes l.done.items)

abbrev pub decreases-loop-alloc : goal.decreases-loop-alloc
decreases-loop-alloc l = l.ranks - length l.done.items
