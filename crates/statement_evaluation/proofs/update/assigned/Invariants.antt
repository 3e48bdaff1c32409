use Rattle.std.proofs.Common.{◌≡◌, drop}
use Rattle.statement_evaluation.specs.Effect.{assigned}
use Rattle.statement_evaluation.proofs.update.assigned.Given as goal

-- with the columns that are left set too, it is the new row
abbrev pub invariant-loop-assignment : goal.invariant-loop-assignment
invariant-loop-assignment l = assigned l.old (drop l.assignment-index l.sets) l.values.items ≡ assigned l.old l.sets l.old
