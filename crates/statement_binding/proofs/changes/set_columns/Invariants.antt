use Rattle.std.proofs.Common.{◌≡◌, take}
use Rattle.binding_model.specs.Statements.{set_columns}
use Rattle.statement_binding.proofs.changes.set_columns.Given as goal

abbrev pub invariant-loop-set : goal.invariant-loop-set
invariant-loop-set l = l.all.items ≡ set_columns (take l.set-index l.sets)
