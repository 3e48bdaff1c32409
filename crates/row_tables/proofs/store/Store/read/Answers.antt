use Rattle.std.proofs.Common.{◌∙◌}
use Rattle.row_tables.proofs.StoreLemmas.{seen}
use Rattle.row_tables.proofs.store.Store.read.Goals as goal

-- the row in place is the one that the session sees
pub returns : goal.returns
returns c = c.get.ensures ∙ seen c.self.inside.rows c.self.inside.undo c.args.self.now c.args.session (c.args.table, c.args.key.now) c.self.view_is c.requires
