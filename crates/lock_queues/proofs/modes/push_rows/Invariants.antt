use Rattle.std.proofs.Common.{◌≡◌, ◌++◌}
use Rattle.lock_queues.specs.Records.{rows_of}
use Rattle.lock_queues.proofs.modes.push_rows.Given as goal

abbrev pub invariant-loop-table : goal.invariant-loop-table
invariant-loop-table l = l.all.items ++ rows_of l.table-iterator ≡ l.fn.all.items ++ rows_of l.rows
