use Rattle.std.proofs.Common.{◌∙◌, sym, arith, true, false, replicate, length-set}
use Rattle.lock_queues.specs.Locks.{waits_for}
use Rattle.lock_queues.specs.LockTable.{look_at}
use Rattle.lock_queues.specs.Search.{marks}
use Rattle.marked_locks.specs.Queued.{waits_of}
use Rattle.marked_locks.proofs.RingLemmas.{edge-waits, fewer-left, searched-all, searched-first, searched-more}
use Rattle.marked_locks.proofs.SeenLemmas.{waiting-seen}
use Rattle.marked_locks.proofs.ring.is_in_ring.Goals as goal

pub loop-next-init : goal.loop-next-init
loop-next-init c =
    let edge = waits_for (look_at c.args.modes.now.now) (waits_of c.args.modes.now.resources c.args.waits.now) in
    let i = c.args.session in (
      searched-first edge c.args.waits.now i 9 (marks c.mark.new.reached) c.requires.session c.mark.ensures,
      omega (arith, length-set (replicate 9 false) i true),
    )

pub loop-next-smaller : goal.loop-next-smaller
loop-next-smaller c =
    let long = c.loop-next.invariant.1 in
    let inside = c.in-Some.ensures.1 in
    fewer-left c.loop-next.passed c.in-Some.next (omega (arith, long, inside)) c.in-Some.ensures.0.not_passed

pub loop-next-preserved : goal.loop-next-preserved
loop-next-preserved c =
    let edge = waits_for (look_at c.args.modes.now.now) (waits_of c.args.modes.now.resources c.args.waits.now) in
    let passed = c.loop-next.passed in
    let long = c.loop-next.invariant.1 in
    let inside = c.in-Some.ensures.1 in (
      searched-more edge c.args.waits.now c.args.session passed c.in-Some.next (marks c.loop-next.reached) (marks c.mark-in-Some.new.reached)
          (omega (arith, long, inside)) c.loop-next.invariant.0 c.in-Some.ensures.0 c.mark-in-Some.ensures,
      length-set passed c.in-Some.next true ∙ long,
    )

pub returns : goal.returns
returns c =
    let look = look_at c.args.modes.now.now in
    let rs = c.args.modes.now.resources in
    let ws = c.args.waits.now in
    let i = c.args.session in
    let s = c.loop-next.invariant.0 in (
      s.sound i,
      searched-all (waits_for look (waits_of rs ws)) ws i (λ a b e. sym (waiting-seen rs ws a) ∙ edge-waits look a b _ (waits_of rs ws) e)
          (marks c.loop-next.reached) (marks c.loop-next.passed) s c.in_default.ensures,
    )
