use Rattle.std.proofs.Common.{take}
use Rattle.book_stretches.specs.Sweep.{end, IsVerdict}
use Rattle.book_stretches.proofs.telling.Telling.judged.Given as goal

-- what the first of the runs give
abbrev pub invariant-loop-i : goal.invariant-loop-i
invariant-loop-i l = IsVerdict l.self (end l.self) (take l.i l.active) l.found
