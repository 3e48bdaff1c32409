use Rattle.std.proofs.Common.{take}
use Rattle.fact_books.specs.Sweep.{OnlyRan}
use Rattle.book_stretches.proofs.judging.only_ran.Given as goal

abbrev pub invariant-loop-i : goal.invariant-loop-i
invariant-loop-i l = OnlyRan (take l.i l.active)
