use Rattle.std.proofs.Common.{◌≡◌, drop}
use Rattle.statement_evaluation.specs.Effect.{all_assigned}
use Rattle.statement_evaluation.proofs.ListLemmas.{onto}
use Rattle.statement_evaluation.proofs.update.assign_each.Given as goal

-- with those that are left they are all
abbrev pub invariant-loop-entry : goal.invariant-loop-entry
invariant-loop-entry l = onto l.writes (all_assigned l.sets (drop l.entry-index l.found)) ≡ all_assigned l.sets l.found
