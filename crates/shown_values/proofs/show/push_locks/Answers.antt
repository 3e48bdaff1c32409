use Rattle.std.specs.Prelude.{codes}
use Rattle.shown_values.specs.Moments.{lock_json}
use Rattle.shown_values.proofs.Joining.{joined-next}
use Rattle.shown_values.proofs.show.push_locks.Goals as goal

-- a lock is pushed
pub loop-place-preserved : goal.loop-place-preserved
loop-place-preserved c =
    joined-next (lock_json c.args.tables.now) (codes ",") _ _ _ _ _ _ _ c.loop-place-test.true c.lock-item.is c.loop-place.invariant
    c.in_ok-push_before.ensures c.in_ok-push_lock.ensures
