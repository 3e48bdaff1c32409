use Rattle.std.proofs.Common.{◌≡◌, ◌++◌, drop}
use Rattle.session_machine.proofs.leaving.copied_columns.Given as goal

abbrev pub invariant-loop-column : goal.invariant-loop-column
invariant-loop-column l = l.copies ++ drop l.column-index l.columns ≡ l.columns
