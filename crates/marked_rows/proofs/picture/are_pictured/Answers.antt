use Rattle.std.proofs.Common.{◌++◌, ◌∙◌, ap, arith, map, take}
use Rattle.std.specs.Vec.{vec_items}
use Rattle.std.proofs.lemmas.List.{length-map}
use Rattle.marked_rows.specs.Picture.{pictured_in}
use Rattle.marked_rows.proofs.PictureLemmas.{more-tables-made}
use Rattle.marked_rows.proofs.PlaceLemmas.{items-of}
use Rattle.marked_rows.proofs.picture.are_pictured.Goals as goal

pub loop-table-preserved : goal.loop-table-preserved
loop-table-preserved c =
    let vs = c.args.tables.now in
    let t = c.loop-table.table in
    let passed = take c.loop-table.passed c.args.picture.now in
    let keys = c.as_slice.ensures.value ∙ items-of vs t c.index-tables-table.result c.loop-table-test.true c.index-tables-table.is in
    more-tables-made c.args.rows.now.list c.args.cells.now passed (take c.in-Some.behind c.args.picture.now) (map vec_items vs) t
    (omega (arith, c.loop-table-test.true, length-map vs vec_items)) c.loop-table.invariant
    (c.in-Some.ensures ∙ ap (λ es. passed ++ pictured_in c.args.rows.now.list c.args.cells.now t es) keys)
