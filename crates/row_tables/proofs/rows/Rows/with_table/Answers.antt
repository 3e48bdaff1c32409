use Rattle.std.proofs.Common.{ap, ◌∙◌}
use Rattle.row_tables.specs.Tables.{put_rows, rows_of_tables}
use Rattle.row_tables.proofs.TableLemmas.{put-tables}
use Rattle.row_tables.proofs.rows.Rows.with_table.Goals as goal

-- a put to the tables puts the rows of one
pub returns : goal.returns
returns c = ap rows_of_tables c.in_ok-tables.ensures ∙ put-tables c.self.inside.tables c.args.table c.args.rows
    ∙ ap (put_rows c.args.table c.args.rows) c.self.view_is
