use Rattle.std.proofs.Common.{ap, ◌∙◌}
use Rattle.std.specs.FinMap.Entries.{find}
use Rattle.lock_modes.specs.Value.{value_cmp}
use Rattle.row_tables.specs.Layers.{sight}
use Rattle.row_tables.proofs.TableLemmas.{find-rows_of}
use Rattle.row_tables.proofs.StoreLemmas.{rows_of-seen}
use Rattle.row_tables.proofs.store.Store.scan.Goals as goal

-- the table's rows in place are those that the session sees
pub returns-clause-rows : goal.returns-clause-rows
returns-clause-rows c = c.scan.ensures.rows
    ∙ rows_of-seen c.self.inside.rows c.self.inside.undo c.args.self.now c.args.session c.args.table c.self.view_is c.requires

pub returns-clause-each : goal.returns-clause-each
returns-clause-each c = λ key.
    ap (find value_cmp key) (c.scan.ensures.rows
    ∙ rows_of-seen c.self.inside.rows c.self.inside.undo c.args.self.now c.args.session c.args.table c.self.view_is c.requires)
    ∙ find-rows_of c.args.table key (sight c.args.session c.args.self.now)
