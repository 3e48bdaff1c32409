use Rattle.std.proofs.Common.{◌≡◌, ◌++◌, map}
use Rattle.lock_queues.specs.Records.{table_of}
use Rattle.lock_queues.proofs.modes.push_tables.Given as goal

abbrev pub invariant-loop-table : goal.invariant-loop-table
invariant-loop-table l = l.all.items ++ map table_of l.table-iterator ≡ l.fn.all.items ++ map table_of l.tables
