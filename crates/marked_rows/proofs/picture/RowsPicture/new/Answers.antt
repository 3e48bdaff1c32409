use Rattle.std.proofs.Common.{◌∙◌, ap, map}
use Rattle.std.specs.Vec.{vec_items}
use Rattle.marked_rows.specs.Cells.{layers_of}
use Rattle.marked_rows.specs.Picture.{layers_in}
use Rattle.marked_rows.proofs.PictureLemmas.{pictured-layers}
use Rattle.marked_rows.proofs.picture.RowsPicture.new.Goals as goal

pub returns : goal.returns
returns c =
    let rows = c.args.rows.now.list in
    let cells = c.args.cells.now in
    ap (λ v. layers_in v.items) c.in_ok-cells.ensures ∙ ap layers_in c.in_ok-made.ensures ∙ pictured-layers rows cells 0 (map vec_items c.tables.result.now) ∙ ap (layers_of rows cells) c.tables.ensures
