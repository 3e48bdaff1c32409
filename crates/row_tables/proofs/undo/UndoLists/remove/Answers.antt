use Rattle.std.proofs.Common.{sym, ap, subst, ◌∙◌}
use Rattle.finite_maps.specs.Map
use Rattle.row_tables.specs.Undo.{AreApart}
use Rattle.row_tables.proofs.ListLemmas.{remove-lists}
use Rattle.row_tables.proofs.StoreLemmas.{removed-apart}
use Rattle.row_tables.proofs.undo.UndoLists.remove.Goals as goal

pub returns-clause-gone : goal.returns-clause-gone
returns-clause-gone c =
    remove-lists c.self.inside.lists.entries c.remove.new.self.entries c.args.session c.remove.ensures.updates.0
    ∙ ap (λ lists. Map.remove lists c.args.session) c.self.view_is

pub returns-clause-apart : goal.returns-clause-apart
returns-clause-apart c = λ apart. subst AreApart (sym (returns-clause-gone c)) (removed-apart _ c.args.session apart)
