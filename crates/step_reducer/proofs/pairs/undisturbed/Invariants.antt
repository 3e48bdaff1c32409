use Rattle.std.proofs.Common.{◌≡◌, ℕ, ◌<◌, true, ◌==◌}
use Rattle.std.specs.List.{find}
use Rattle.lock_queues.specs.declared.wait.Wait.{Wait}
use Rattle.machine_model.specs.Claims.{plans}
use Rattle.step_reducer.specs.Pairs.{clear_of}
use Rattle.step_reducer.proofs.pairs.undisturbed.Given as goal

abbrev pub invariant-loop-other : goal.invariant-loop-other
invariant-loop-other l = (k : ℕ) → k < l.other → clear_of l.world.world l.session (plans l.statements)
    (find (λ (v : Wait). v.session == k) l.world.world.waits) ≡ true
