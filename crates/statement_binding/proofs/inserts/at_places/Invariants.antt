use Rattle.std.proofs.Common.{◌≡◌, take, map}
use Rattle.binding_model.specs.Statements.{value_at}
use Rattle.statement_binding.proofs.inserts.at_places.Given as goal

abbrev pub invariant-loop-place : goal.invariant-loop-place
invariant-loop-place l = l.values.items ≡ map (value_at l.row) (take l.place-index l.places)
