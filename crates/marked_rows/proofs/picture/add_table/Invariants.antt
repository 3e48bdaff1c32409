use Rattle.std.proofs.Common.{◌≡◌, ◌++◌, take}
use Rattle.marked_rows.specs.Picture.{pictured_in}
use Rattle.marked_rows.proofs.picture.add_table.Given as goal

abbrev pub invariant-loop-index : goal.invariant-loop-index
invariant-loop-index l = l.made.items ≡ l.initial.made.items ++ pictured_in l.rows.list l.cells l.table (take l.index l.keys)
