use Rattle.std.proofs.Common.{◌∙◌, ap, subst, sym}
use Rattle.row_tables.specs.Layers.{rows_of}
use Rattle.marked_rows.specs.Cells.{MarkedRows}
use Rattle.marked_rows.specs.Places.{keys_of}
use Rattle.marked_rows.specs.Shown.{CanShow, numbers_of, shown}
use Rattle.marked_rows.specs.declared.cell.Sight.TheVariants.{Committed}
use Rattle.marked_rows.proofs.SightLemmas.{committed-rows, scan-shows}
use Rattle.marked_rows.proofs.rows.MarkedRows.committed.Goals as goal

pub new-requires : goal.new-requires
new-requires c =
    let i = c.self.inside in
    let table = c.table-keys in
    let es = table.result.now in
    subst (λ cs. CanShow i.rows.list (keys_of es) (numbers_of Committed cs es)) (sym c.as_slice.ensures)
    (scan-shows i.places i.rows i.cells i.written c.self.invariant c.args.table es table.ensures.rise table.ensures.there table.ensures.absent Committed)

pub returns : goal.returns
returns c =
    let i = c.self.inside in
    let table = c.table-keys in
    let es = table.result.now in
    let t = c.args.table in
    let rows = committed-rows i.places i.rows i.cells i.written c.self.invariant t es table.ensures.rise table.ensures.there table.ensures.absent in
    c.new.ensures ∙ ap (λ cs. shown i.rows.list (keys_of es) (numbers_of Committed cs es)) c.as_slice.ensures ∙ rows
    ∙ ap (λ (m : MarkedRows). rows_of t m.now.committed) c.self.view_is
