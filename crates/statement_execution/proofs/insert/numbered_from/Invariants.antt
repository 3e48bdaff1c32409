use Rattle.std.proofs.Common.{◌≡◌, drop, ◌++◌}
use Rattle.statement_evaluation.specs.Effect.{numbered}
use Rattle.statement_execution.proofs.insert.numbered_from.Given as goal

-- with those that are left they are all
abbrev pub invariant-loop-row : goal.invariant-loop-row
invariant-loop-row l = l.writes ++ numbered l.table l.number (drop l.row-index l.new) ≡ numbered l.table l.first l.new
