use Rattle.std.proofs.Common.{◌≡◌, drop}
use Rattle.binding_model.specs.Types.{row_mixes}
use Rattle.statement_binding.proofs.types.row_mixes.Given as goal

abbrev pub invariant-loop-n : goal.invariant-loop-n
invariant-loop-n l = row_mixes l.table (drop l.n l.columns) (drop l.n l.row) ≡ row_mixes l.table l.columns l.row
