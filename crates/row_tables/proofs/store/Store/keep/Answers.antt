use Rattle.std.proofs.Common.{ap, ◌∙◌}
use Rattle.row_tables.specs.Layers.{kept}
use Rattle.row_tables.specs.Undo.{layers}
use Rattle.row_tables.proofs.StoreLemmas.{kept-layers}
use Rattle.row_tables.proofs.store.Store.keep.Goals as goal

-- without its list, what the session wrote is committed
pub returns : goal.returns
returns c =
    ap (layers c.self.inside.rows) c.remove.ensures.gone
    ∙ kept-layers c.self.inside.rows c.self.inside.undo c.args.session c.self.invariant
    ∙ ap (kept c.args.session) c.self.view_is
