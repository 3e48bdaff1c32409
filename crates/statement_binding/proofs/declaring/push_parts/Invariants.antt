use Rattle.std.proofs.Common.{◌≡◌, ◌++◌, drop}
use Rattle.binding_model.specs.Tables.{joined, part_columns, part_keys}
use Rattle.statement_binding.proofs.declaring.push_parts.Given as goal

abbrev pub invariant-loop-part : goal.invariant-loop-part
invariant-loop-part l = record {
  columns : l.columns.items ++ joined part_columns (drop l.part-index l.parts) ≡ l.fn.columns.items ++ joined part_columns l.parts;
  keys : l.keys.items ++ joined part_keys (drop l.part-index l.parts) ≡ l.fn.keys.items ++ joined part_keys l.parts;
}
