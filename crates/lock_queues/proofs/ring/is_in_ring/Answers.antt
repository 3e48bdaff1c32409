use Rattle.std.proofs.Common.{◌≡◌, ◌<◌, ◌↔◌, true, false, replicate, set, get_or, sym, subst, arith, length-set}
use Rattle.lock_queues.specs.Locks.{waits_for}
use Rattle.lock_queues.specs.LockTable.{look_at}
use Rattle.lock_queues.specs.Search.{marks}
use Rattle.lock_queues.specs.Sound.{Way}
use Rattle.lock_queues.proofs.Searching.{Searched, searched-first, searched-more, searched-all, unset, fewer-left}
use Rattle.lock_queues.proofs.ring.is_in_ring.Goals as goal

pub loop-next-init : goal.loop-next-init
loop-next-init c =
    let look = look_at c.args.held.now in
    let waits = c.args.waits.now in
    let i = c.args.session in (
      subst (λ n. Searched (waits_for look waits) waits i (marks c.mark.new.reached) (marks (set (replicate 256 false) n true))) (sym c.from.ensures)
          (searched-first look waits i 256 (marks c.mark.new.reached) (omega arith) c.mark.ensures),
      omega (arith, length-set (replicate 256 false) c.from.result true),
    )

pub loop-next-smaller : goal.loop-next-smaller
loop-next-smaller c =
    let passed = c.loop-next.passed in
    let r : unset (set passed c.in-Some.next true) < unset passed = fewer-left passed c.in-Some.next (omega arith) c.in-Some.ensures.not_passed in
    subst (λ n. unset (set passed n true) < unset passed) (sym c.from-in-Some.ensures) r

pub loop-next-preserved : goal.loop-next-preserved
loop-next-preserved c =
    let look = look_at c.args.held.now in
    let waits = c.args.waits.now in
    let i = c.args.session in
    let passed = c.loop-next.passed in (
      subst (λ n. Searched (waits_for look waits) waits i (marks c.mark-in-Some.new.reached) (marks (set passed n true))) (sym c.from-in-Some.ensures)
          (searched-more look waits i passed c.in-Some.next (marks c.loop-next.reached) (marks c.mark-in-Some.new.reached) (omega arith)
          c.loop-next.invariant.0 c.in-Some.ensures c.mark-in-Some.ensures),
      omega (arith, length-set passed c.from-in-Some.result true),
    )

pub returns : goal.returns
returns c =
    let look = look_at c.args.held.now in
    let waits = c.args.waits.now in
    let i = c.args.session in
    let s = c.loop-next.invariant.0 in
    subst (λ n. (get_or c.loop-next.reached n false ≡ true) ↔ Way (waits_for look waits) i i) (sym c.from-2.ensures)
    (s.sound i, searched-all look waits i (marks c.loop-next.reached) (marks c.loop-next.passed) s c.in_default.ensures)
