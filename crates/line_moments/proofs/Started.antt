-- Each moment of a line from the start of a spec is of a step of its session, since nobody waits there.
use Rattle.std.specs.List.{All}
use Rattle.std.proofs.Common.{◌≡◌, subst, ℕ, suc, ◌<◌, true, false, List, length}
use Rattle.lock_queues.specs.Locks.{waits_now}
use Rattle.lock_queues.specs.Reasons.{Among}
use Rattle.bound_specs.specs.Spec.{Spec, IsBound}
use Rattle.machine_model.specs.World.{World}
use Rattle.machine_model.specs.Start.{Started, start, IsIdle}
use Rattle.machine_model.proofs.Starts.{OnStarted, start-idle, start-sound}
use Rattle.machine_model.proofs.Counts.{bound-fits}
use Rattle.line_moments.specs.Moments.{Going, line_goings, IsOfStep}
use Rattle.line_moments.proofs.Steps.{line-steps}

pub spec-steps : (spec : Spec) (w : World) (ks : List ℕ) → IsBound spec → start spec ≡ Started w → All (λ k. k < length spec.steps) ks
    → (g : Going) → Among g (line_goings spec.steps w ks) → IsOfStep spec.steps g
spec-steps spec w ks bound e known =
    let a : IsIdle (suc spec.sessions) w = subst (λ s. OnStarted s (IsIdle (suc spec.sessions))) e (start-idle spec bound.session_setups) in
    (line-steps spec.steps w ks (start-sound spec w bound.session_setups e) (bound-fits spec w bound e) known
    (λ c h. absurd (let k : false ≡ true = subst (λ ws. waits_now ws c ≡ true) a.idle h in cc))).0
