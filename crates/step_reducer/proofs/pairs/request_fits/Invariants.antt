use Rattle.lock_modes.specs.Resource.{resource_at}
use Rattle.bound_statements.specs.Plan.{request}
use Rattle.rank_facts.specs.Quiet.{fit_together}
use Rattle.step_reducer.proofs.Asked.{AllSoFar}
use Rattle.step_reducer.proofs.pairs.request_fits.Given as goal

abbrev pub invariant-loop-statement : goal.invariant-loop-statement
invariant-loop-statement l = AllSoFar (fit_together (request (resource_at l.place) l.mode)) l.others l.statement-index
