use Rattle.std.proofs.Common.{◌≡◌}
use Rattle.row_tables.specs.Layers.{only, sight, rows_of}
use Rattle.statement_evaluation.specs.Effect.{matching}
use Rattle.statement_evaluation.proofs.ListLemmas.{onto}
use Rattle.statement_execution.specs.Seen.{in_table}
use Rattle.marked_execution.proofs.marked_sight.MarkedSightSight.matching_in.Given as goal

-- with those that are left they are all that match
abbrev pub invariant-loop-key : goal.invariant-loop-key
invariant-loop-key l = onto l.found (matching l.condition (in_table l.table l.key-iterator))
    ≡ matching l.condition (in_table l.table (rows_of l.table (sight l._session (only l.self.session l.self.rows.now.now))))
