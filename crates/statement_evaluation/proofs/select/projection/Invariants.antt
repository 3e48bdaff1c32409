use Rattle.std.proofs.Common.{◌≡◌, map, take, get_or, pos}
use Rattle.lock_modes.specs.declared.value.Value.TheVariants.{Int}
use Rattle.statement_evaluation.proofs.select.projection.Given as goal

-- the values of the first columns
abbrev pub invariant-loop-column : goal.invariant-loop-column
invariant-loop-column l = l.values.items ≡ map (λ c. get_or l.row c (Int (pos 0))) (take l.column-index l.columns)
