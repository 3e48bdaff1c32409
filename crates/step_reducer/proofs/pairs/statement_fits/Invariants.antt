use Rattle.std.proofs.Common.{length}
use Rattle.lock_queues.specs.Locks.{fits}
use Rattle.bound_statements.specs.Plan.{Request, plan}
use Rattle.machine_model.specs.World.{look_of}
use Rattle.step_reducer.proofs.Asked.{SoFar}
use Rattle.step_reducer.proofs.pairs.statement_fits.Given as goal

abbrev pub invariant-loop-number : goal.invariant-loop-number
invariant-loop-number l = SoFar (λ (q : Request). fits (length l.world.world.sessions) (look_of l.world.world) l.session q.resource q.mode)
    (plan l.statement) l.number
