use Rattle.std.proofs.Common.{arith}
use Rattle.fact_books.proofs.FillLemmas.{extend-step}
use Rattle.fact_books.proofs.filling.extend.Goals as goal

pub loop-done-preserved : goal.loop-done-preserved
loop-done-preserved c =
    extend-step _ _ _ _ _ c.loop-done.invariant.0 (c.loop-done.invariant.1, c.loop-done.invariant.2) c.in_ok-push.ensures.items
    (omega (arith, c.len.ensures, c.loop-done-test.true))
