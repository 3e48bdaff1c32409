use Rattle.std.proofs.Common.{◌≡◌, sym, ap, ◌∙◌, [], nat_cmp}
use Rattle.std.specs.Option.{unwrap_or, option_copied}
use Rattle.std.specs.FinMap.Entries.{find}
use Rattle.row_tables.specs.Layers.{rows_of}
use Rattle.row_tables.proofs.TableLemmas.{table-rows}
use Rattle.row_tables.proofs.rows.Rows.table.Goals as goal
use Rattle.row_tables.proofs.rows.Rows.table.Goals.{in-Some, in-None}

-- what is kept for the table, or else no rows, are its rows
pub returns-clause-rows : goal.returns-clause-rows
returns-clause-rows c =
    let is : unwrap_or (find nat_cmp c.args.table c.self.inside.tables) [] ≡ c.match-get.rows.now =
    elim c.match-get.branch [
      | in-Some w ↦ ap (λ o. unwrap_or o []) (sym c.get.ensures ∙ ap option_copied w.in-Some.is) ∙ ap (λ r. r.now) (sym w.rows-is)
      | in-None w ↦ ap (λ o. unwrap_or o []) (sym c.get.ensures ∙ ap option_copied w.in-None.is) ∙ sym c.self.invariant ∙ ap (λ r. r.now) (sym w.rows-is)
    ] in
    table-rows c.self.inside.tables c.args.table c.match-get.rows.now c.len-in_order.ensures.in_order is ∙ ap (rows_of c.args.table) c.self.view_is
