use Rattle.std.proofs.Common.{◌≡◌, ◌<◌, ◌⊎◌, ⊎_elim, length, sym, ◌∙◌, subst, arith}
use Rattle.std.proofs.lemmas.Bool.{both_ways}
use Rattle.lock_queues.specs.LockTable.{look_at}
use Rattle.lock_queues.specs.Rules.{IsRipe}
use Rattle.lock_queues.proofs.Spots.{same-spot}
use Rattle.lock_queues.proofs.queue.next_ripe.Goals as goal

pub loop-index-preserved : goal.loop-index-preserved
loop-index-preserved c = λ s there below ripe.
    let at : (length s.before < c.loop-index.index) ⊎ (length s.before ≡ c.loop-index.index) = grind arith in
    ⊎_elim (λ lt. c.loop-index.invariant s there lt ripe)
    (λ e. let same : s ≡ c.at-spot.result = same-spot c.args.waits.now s c.at-spot.result there c.at-spot.ensures.there (e ∙ sym c.at-spot.ensures.place) in
    both_ways _ c.if-is_ripe.false (c.is_ripe.ensures.1 (subst (IsRipe (look_at c.args.held.now)) same ripe))) at
