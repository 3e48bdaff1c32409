use Rattle.std.proofs.Common.{◌≡◌, ◌<◌, ◌≤◌, ◌⊎◌, ◌∙◌, refl, ⊎_elim, length, sym, subst, arith}
use Rattle.std.proofs.lemmas.Bool.{both_ways, cases_lt}
use Rattle.lock_queues.specs.Locks.{Spot}
use Rattle.lock_queues.specs.LockTable.{look_at}
use Rattle.lock_queues.specs.Rules.{IsRipe}
use Rattle.marked_locks.specs.Queued.{waits_of}
use Rattle.marked_locks.specs.Places.{spot_at}
use Rattle.marked_locks.proofs.SeenLemmas.{at-spot, before-spot, same-spot}
use Rattle.marked_locks.proofs.queue.next_ripe.Goals as goal

pub returns-then-is_ripe : goal.returns-then-is_ripe
returns-then-is_ripe c =
    let rs = c.args.modes.now.resources in
    let ws = c.args.waits.now in
    let k = c.loop-place.place in
    let s : Spot = spot_at rs ws k in (
      s,
      record {
        there = at-spot rs ws k c.loop-place-test.true;
        ripe = c.is_ripe.ensures.0 c.if-is_ripe.true;
        earliest = λ t there ripe. ⊎_elim (λ lt. absurd (c.loop-place.invariant t there lt ripe))
            (λ le. subst (λ n. n ≤ length t.before) (sym (before-spot rs ws k c.loop-place-test.true)) le) (cases_lt (length t.before) k);
      },
      refl,
    )

pub loop-place-preserved : goal.loop-place-preserved
loop-place-preserved c = λ s there below ripe.
    let rs = c.args.modes.now.resources in
    let ws = c.args.waits.now in
    let k = c.loop-place.place in
    let t : Spot = spot_at rs ws k in
    let at : (length s.before < k) ⊎ (length s.before ≡ k) = grind arith in
    ⊎_elim (λ lt. c.loop-place.invariant s there lt ripe)
    (λ e. let same : s ≡ t = same-spot (waits_of rs ws) s t there (at-spot rs ws k c.loop-place-test.true)
    (e ∙ sym (before-spot rs ws k c.loop-place-test.true)) in
    both_ways _ c.if-is_ripe.false (c.is_ripe.ensures.1 (subst (IsRipe (look_at c.args.modes.now.now)) same ripe))) at
