use Rattle.std.proofs.Common.{◌∙◌, ap, subst, sym}
use Rattle.std.specs.FinMap.Entries.{find}
use Rattle.finite_maps.specs.Entries.{IsInOrder}
use Rattle.lock_modes.specs.Value.{value_cmp}
use Rattle.row_tables.specs.Layers.{rows_of, sight}
use Rattle.row_tables.proofs.TableLemmas.{find-rows_of, sorted-rows_of}
use Rattle.marked_rows.specs.Cells.{MarkedRows}
use Rattle.marked_rows.specs.Places.{keys_of}
use Rattle.marked_rows.specs.Shown.{CanShow, numbers_of, shown}
use Rattle.marked_rows.specs.declared.cell.Sight.TheVariants.{Own}
use Rattle.marked_rows.proofs.SightLemmas.{scan-shows, seen-rows}
use Rattle.marked_rows.proofs.rows.MarkedRows.scan.Goals as goal

pub new-requires : goal.new-requires
new-requires c =
    let i = c.self.inside in
    let table = c.table-keys in
    let es = table.result.now in
    subst (λ cs. CanShow i.rows.list (keys_of es) (numbers_of (Own c.args.session) cs es)) (sym c.as_slice.ensures)
    (scan-shows i.places i.rows i.cells i.written c.self.invariant c.args.table es table.ensures.rise table.ensures.there table.ensures.absent (Own c.args.session))

pub returns-clause-rows : goal.returns-clause-rows
returns-clause-rows c =
    let i = c.self.inside in
    let table = c.table-keys in
    let es = table.result.now in
    let s = c.args.session in
    let t = c.args.table in
    let rows = seen-rows i.places i.rows i.cells i.written c.self.invariant t es table.ensures.rise table.ensures.there table.ensures.absent s in
    c.new.ensures ∙ ap (λ cs. shown i.rows.list (keys_of es) (numbers_of (Own c.args.session) cs es)) c.as_slice.ensures ∙ rows
    ∙ ap (λ (m : MarkedRows). rows_of t (sight s m.now)) c.self.view_is

pub returns-clause-in_order : goal.returns-clause-in_order
returns-clause-in_order c =
    subst (IsInOrder value_cmp) (sym (returns-clause-rows c)) (sorted-rows_of c.args.table (sight c.args.session c.args.self.now.now))

pub returns-clause-each : goal.returns-clause-each
returns-clause-each c key =
    ap (find value_cmp key) (returns-clause-rows c) ∙ find-rows_of c.args.table key (sight c.args.session c.args.self.now.now)
