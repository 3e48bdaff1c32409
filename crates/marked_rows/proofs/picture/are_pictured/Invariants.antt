use Rattle.std.proofs.Common.{◌≡◌, map, take}
use Rattle.std.specs.Vec.{vec_items}
use Rattle.marked_rows.specs.Picture.{pictured_from}
use Rattle.marked_rows.proofs.picture.are_pictured.Given as goal

abbrev pub invariant-loop-table : goal.invariant-loop-table
invariant-loop-table l = take l.passed l.picture ≡ pictured_from l.rows.list l.cells 0 (take l.table (map vec_items l.tables))
