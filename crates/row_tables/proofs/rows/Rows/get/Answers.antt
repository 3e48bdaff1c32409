use Rattle.std.proofs.Common.{ap, ◌∙◌}
use Rattle.std.specs.FinMap.Entries.{find}
use Rattle.lock_modes.specs.Value.{value_cmp}
use Rattle.row_tables.proofs.TableLemmas.{find-rows_of}
use Rattle.row_tables.proofs.rows.Rows.get.Goals as goal

-- a look-up in a table's rows is one at the table and the key
pub returns : goal.returns
returns c = c.get.ensures ∙ ap (find value_cmp c.args.key.now) c.table.ensures.rows ∙ find-rows_of c.args.table c.args.key.now c.args.self.now
