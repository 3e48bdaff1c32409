use Rattle.std.proofs.Common.{not}
use Rattle.lock_modes.specs.Resource.{resource_at, same_resource}
use Rattle.bound_statements.specs.Plan.{Request}
use Rattle.step_reducer.proofs.Asked.{AllSoFar}
use Rattle.step_reducer.proofs.pairs.none_asked.Given as goal

abbrev pub invariant-loop-statement : goal.invariant-loop-statement
invariant-loop-statement l = AllSoFar (λ (q : Request). not (same_resource (resource_at l.there) q.resource)) l.statements l.statement-index
