use Rattle.fact_books.proofs.SweepLemmas.{keeps-push, keeps-skip, admits-none, admits-push, admits-skip}
use Rattle.book_stretches.proofs.sweep.active_at.Goals.{then-rank-run+in_ok-push, else-rank-run, then-rank-run-2+in_ok-push-2, else-rank-run-2}
use Rattle.book_stretches.proofs.sweep.active_at.Goals as goal

pub loop-i-preserved : goal.loop-i-preserved
loop-i-preserved c = elim c.if-rank-run.branch [
  | then-rank-run+in_ok-push w ↦ rw (w.now-is, w.in_ok-push.ensures.items)
      (keeps-push _ _ _ _ _ c.loop-i-test.true c.requires.began c.loop-i.invariant w.if-rank-run.true)
  | else-rank-run w ↦ rw (w.now-is) (keeps-skip _ _ _ _ _ c.loop-i-test.true c.loop-i.invariant w.if-rank-run.false)
]

pub loop-after-init : goal.loop-after-init
loop-after-init c = admits-none _ _ _ _ _ _ c.loop-i-test.false c.requires.bound c.loop-i.invariant

pub loop-after-preserved : goal.loop-after-preserved
loop-after-preserved c = elim c.if-rank-run-2.branch [
  | then-rank-run-2+in_ok-push-2 w ↦ rw (w.now-is, w.in_ok-push-2.ensures.items)
      (admits-push _ _ _ _ _ _ _ c.loop-after-test.true c.loop-after.invariant c.if-runs-after.true w.if-rank-run-2.true)
  | else-rank-run-2 w ↦ rw (w.now-is) (admits-skip _ _ _ _ _ _ _ c.loop-after-test.true c.loop-after.invariant w.if-rank-run-2.false)
]
