use Rattle.std.proofs.Common.{◌≡◌, map}
use Rattle.binding_model.specs.Statements.{place_of}
use Rattle.statement_binding.proofs.inserts.places.Given as goal

abbrev pub invariant-loop-column : goal.invariant-loop-column
invariant-loop-column l = l.all.items ≡ map (place_of l.columns) l.yielded
