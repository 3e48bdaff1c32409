use Rattle.fact_books.proofs.FillLemmas.{only-step}
use Rattle.book_stretches.proofs.judging.only_ran.Goals as goal

pub loop-i-preserved : goal.loop-i-preserved
loop-i-preserved c = let r = c.is_swap.ensures c.if-is_swap.false in only-step _ _ r.0 _ c.loop-i-test.true c.loop-i.invariant r.1
