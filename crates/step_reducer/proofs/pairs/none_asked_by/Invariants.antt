use Rattle.std.proofs.Common.{not}
use Rattle.lock_modes.specs.Resource.{resource_at, same_resource}
use Rattle.bound_statements.specs.Plan.{Request, plan}
use Rattle.step_reducer.proofs.Asked.{SoFar}
use Rattle.step_reducer.proofs.pairs.none_asked_by.Given as goal

abbrev pub invariant-loop-number : goal.invariant-loop-number
invariant-loop-number l = SoFar (λ (q : Request). not (same_resource (resource_at l.there) q.resource)) (plan l.statement) l.number
