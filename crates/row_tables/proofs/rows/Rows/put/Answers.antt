use Rattle.std.proofs.Common.{◌≡◌, ap, ◌∙◌, subst}
use Rattle.std.specs.Result.{IfOk}
use Rattle.std.specs.FinMap.Entries.{put}
use Rattle.finite_maps.specs.Map.{insert}
use Rattle.lock_modes.specs.Value.{value_cmp}
use Rattle.lock_modes.specs.Rows.{Rows'}
use Rattle.row_tables.specs.Tables.{put_rows}
use Rattle.row_tables.proofs.TableLemmas.{put_rows-put}
use Rattle.row_tables.proofs.rows.Rows.put.Goals as goal

-- a table's rows with one more, put for the table, are the rows with one more
pub returns : goal.returns
returns c =
    let rows = c.args.self.now in
    let is : put_rows c.args.table c.in_ok-rows.rows rows ≡ insert rows (c.args.table, c.args.key) c.args.row =
    ap (λ es. put_rows c.args.table es rows) (c.in_ok-rows.ensures ∙ ap (put value_cmp c.args.key c.args.row) c.table.ensures.rows)
    ∙ put_rows-put c.args.table c.args.key c.args.row rows in
    subst (λ (new : Rows'). IfOk c.with_table.result (λ rows. rows ≡ new)) is c.with_table.ensures
