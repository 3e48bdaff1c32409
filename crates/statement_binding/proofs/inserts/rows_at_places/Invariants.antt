use Rattle.std.proofs.Common.{◌≡◌, take, map}
use Rattle.binding_model.specs.Statements.{at_places}
use Rattle.statement_binding.proofs.inserts.rows_at_places.Given as goal

abbrev pub invariant-loop-row : goal.invariant-loop-row
invariant-loop-row l = l.all.items ≡ map (at_places l.places) (take l.row-index l.rows)
