use Rattle.fact_books.proofs.SweepLemmas.{border-step}
use Rattle.book_stretches.proofs.sweep.border.Goals as goal

pub loop-i-preserved : goal.loop-i-preserved
loop-i-preserved c = rw (c.min-until-in-loop-i.ensures) (border-step _ _ _ _ _ _ _ _ c.loop-i-test.true c.requires.cover c.loop-i.invariant)
