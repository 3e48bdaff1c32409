use Rattle.std.proofs.Common.{length}
use Rattle.lock_queues.specs.Locks.{fits}
use Rattle.bound_statements.specs.Plan.{Request}
use Rattle.machine_model.specs.World.{look_of}
use Rattle.step_reducer.proofs.Asked.{AllSoFar}
use Rattle.step_reducer.proofs.pairs.all_fit.Given as goal

abbrev pub invariant-loop-statement : goal.invariant-loop-statement
invariant-loop-statement l = AllSoFar (λ (q : Request). fits (length l.world.world.sessions) (look_of l.world.world) l.session q.resource q.mode)
    l.statements l.statement-index
