use Rattle.lock_modes.specs.Resource.{resource_at}
use Rattle.bound_statements.specs.Plan.{request, plan}
use Rattle.rank_facts.specs.Quiet.{fit_together}
use Rattle.step_reducer.proofs.Asked.{SoFar}
use Rattle.step_reducer.proofs.pairs.request_fits_one.Given as goal

abbrev pub invariant-loop-number : goal.invariant-loop-number
invariant-loop-number l = SoFar (fit_together (request (resource_at l.place) l.mode)) (plan l.statement) l.number
