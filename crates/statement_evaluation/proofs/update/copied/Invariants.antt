use Rattle.std.proofs.Common.{◌≡◌, take}
use Rattle.statement_evaluation.proofs.update.copied.Given as goal

-- the first values
abbrev pub invariant-loop-value : goal.invariant-loop-value
invariant-loop-value l = l.values.items ≡ take l.value-index l.row
