use Rattle.std.proofs.Common.{◌≡◌}
use Rattle.row_tables.specs.Layers.{only, sight, rows_of}
use Rattle.statement_evaluation.specs.Effect.{next_number}
use Rattle.statement_execution.specs.Seen.{in_table}
use Rattle.marked_execution.proofs.marked_sight.MarkedSightSight.next_number.Given as goal

-- the rows that are left lead to the same number
abbrev pub invariant-loop-key : goal.invariant-loop-key
invariant-loop-key l = next_number l.next (in_table l.table l.key-iterator)
    ≡ next_number 1 (in_table l.table (rows_of l.table (sight l._session (only l.self.session l.self.rows.now.now))))
