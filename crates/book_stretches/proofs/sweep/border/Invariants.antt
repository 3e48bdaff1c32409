use Rattle.fact_books.specs.Sweep.{IsBorder}
use Rattle.book_stretches.proofs.sweep.border.Given as goal

abbrev pub invariant-loop-i : goal.invariant-loop-i
invariant-loop-i l = IsBorder l.rank l.ranks l.until l.active l.runs l.next l.i
