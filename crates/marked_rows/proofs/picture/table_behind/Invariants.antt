use Rattle.std.proofs.Common.{◌≡◌, ◌++◌, take}
use Rattle.marked_rows.specs.Picture.{pictured_in}
use Rattle.marked_rows.proofs.picture.table_behind.Given as goal

abbrev pub invariant-loop-index : goal.invariant-loop-index
invariant-loop-index l = take l.passed l.picture ≡ take l.fn.from l.picture ++ pictured_in l.rows.list l.cells l.table (take l.index l.keys)
