use Rattle.std.specs.List.{list_all}
use Rattle.bound_statements.specs.Plan.{Request, plan}
use Rattle.machine_model.specs.Claims.{plans}
use Rattle.rank_facts.specs.Quiet.{fit_together}
use Rattle.step_reducer.proofs.Asked.{SoFar}
use Rattle.step_reducer.proofs.pairs.statement_fits_beside.Given as goal

abbrev pub invariant-loop-number : goal.invariant-loop-number
invariant-loop-number l = SoFar (λ (q : Request). list_all (fit_together q) (plans l.others)) (plan l.statement) l.number
