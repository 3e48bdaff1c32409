use Rattle.std.proofs.Common.{◌≡◌, [], take, drop}
use Rattle.binding_model.specs.Tables.{repeated}
use Rattle.statement_binding.proofs.declaring.has_repeated.Given as goal

abbrev pub invariant-loop-n : goal.invariant-loop-n
invariant-loop-n l = repeated (take l.n l.columns) (drop l.n l.columns) ≡ repeated [] l.columns
