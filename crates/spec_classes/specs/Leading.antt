-- The steps of a line that may come where they do. No public clause cites this module.
use Rattle.std.specs.Prelude.{ℕ, cond, List, [], ◌∷◌}
use Rattle.lock_queues.specs.Locks.{waits_now}
use Rattle.bound_specs.specs.Spec.{Step}
use Rattle.machine_model.specs.World.{World, send}
use Rattle.spec_schedules.specs.Schedules.{session_of}

-- a step whose session waits is passed over
abbrev pub led : List Step → World → List ℕ → List ℕ
led steps w [] = []
led steps w (k ∷ ks) = cond (waits_now w.waits (session_of steps k)) (led steps w ks) (k ∷ led steps (send steps w k) ks)
