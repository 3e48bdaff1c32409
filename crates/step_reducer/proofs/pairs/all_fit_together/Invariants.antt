use Rattle.std.specs.List.{list_all}
use Rattle.bound_statements.specs.Plan.{Request}
use Rattle.machine_model.specs.Claims.{plans}
use Rattle.rank_facts.specs.Quiet.{fit_together}
use Rattle.step_reducer.proofs.Asked.{AllSoFar}
use Rattle.step_reducer.proofs.pairs.all_fit_together.Given as goal

abbrev pub invariant-loop-statement : goal.invariant-loop-statement
invariant-loop-statement l = AllSoFar (λ (q : Request). list_all (fit_together q) (plans l.others)) l.statements l.statement-index
