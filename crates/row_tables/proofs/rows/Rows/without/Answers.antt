use Rattle.std.proofs.Common.{◌≡◌, ap, ◌∙◌, subst}
use Rattle.std.specs.Result.{IfOk}
use Rattle.finite_maps.specs.Map
use Rattle.finite_maps.specs.Entries.{without}
use Rattle.lock_modes.specs.Value.{value_cmp}
use Rattle.lock_modes.specs.Rows.{Rows'}
use Rattle.row_tables.specs.Tables.{put_rows}
use Rattle.row_tables.proofs.TableLemmas.{put_rows-without}
use Rattle.row_tables.proofs.rows.Rows.without.Goals as goal

-- a table's rows without one, put for the table, are the rows without it
pub returns : goal.returns
returns c =
    let rows = c.args.self.now in
    let is : put_rows c.args.table c.in_ok-rows.rows rows ≡ Map.remove rows (c.args.table, c.args.key.now) =
    ap (λ es. put_rows c.args.table es rows) (c.in_ok-rows.ensures ∙ ap (without value_cmp c.args.key.now) c.table.ensures.rows)
    ∙ put_rows-without c.args.table c.args.key.now rows in
    subst (λ (new : Rows'). IfOk c.with_table.result (λ rows. rows ≡ new)) is c.with_table.ensures
