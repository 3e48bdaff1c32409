use Rattle.std.proofs.Common.{◌∙◌, ap, map, sym}
use Rattle.std.specs.Vec.{vec_items}
use Rattle.marked_rows.specs.Cells.{layers_of}
use Rattle.marked_rows.specs.Picture.{layers_in}
use Rattle.marked_rows.proofs.PictureLemmas.{pictured-layers}
use Rattle.marked_rows.proofs.picture.RowsPicture.is_of.Goals as goal

pub returns : goal.returns
returns c told =
    let rows = c.args.rows.now.list in
    let cells = c.args.cells.now in
    ap (layers_of rows cells) (sym c.tables.ensures) ∙ sym (pictured-layers rows cells 0 (map vec_items c.tables.result.now))
    ∙ ap layers_in (sym (c.are_pictured.ensures told)) ∙ ap layers_in c.as_slice.ensures.value ∙ ap (λ v. layers_in v.items) c.deref.ensures ∙ c.self.view_is
