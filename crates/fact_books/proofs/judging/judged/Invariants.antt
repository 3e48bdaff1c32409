use Rattle.std.proofs.Common.{take, length}
use Rattle.fact_books.specs.Sweep.{IsVerdict, tag_vote, values_of, leads_of}
use Rattle.fact_books.proofs.judging.judged.Given as goal

abbrev pub invariant-loop-i : goal.invariant-loop-i
invariant-loop-i l = IsVerdict l.outcomes (tag_vote l.outcomes (leads_of l.shape) (values_of l.outcomes l.done) (length l.done)) (take l.i l.active) l.found
