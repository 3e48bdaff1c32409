use Rattle.std.proofs.Common.{◌≡◌, ◌++◌, drop}
use Rattle.binding_model.specs.Tables.{keys_of}
use Rattle.statement_binding.proofs.declaring.push_keys.Given as goal

abbrev pub invariant-loop-property : goal.invariant-loop-property
invariant-loop-property l = l.keys.items ++ keys_of l.name (drop l.property-index l.properties) ≡ l.fn.keys.items ++ keys_of l.name l.properties
