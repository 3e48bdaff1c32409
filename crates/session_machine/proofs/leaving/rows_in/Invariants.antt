use Rattle.std.proofs.Common.{◌≡◌, ◌++◌}
use Rattle.row_tables.specs.Layers.{sight, rows_of}
use Rattle.session_machine.proofs.leaving.rows_in.Given as goal

abbrev pub invariant-loop-key : goal.invariant-loop-key
invariant-loop-key l = l.rows.items ++ l.key-iterator ≡ rows_of l.table (sight 0 l.store)
