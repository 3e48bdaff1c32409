use Rattle.std.proofs.Common.{◌≡◌, ◌++◌, ◌-◌}
use Rattle.binding_model.specs.Statements.{numbers_from}
use Rattle.binding_model.specs.Tables.{width}
use Rattle.statement_binding.proofs.inserts.all_columns.Given as goal

abbrev pub invariant-loop-number : goal.invariant-loop-number
invariant-loop-number l = l.all.items ++ numbers_from l.number (width l.table - l.number) ≡ numbers_from 0 (width l.table)
