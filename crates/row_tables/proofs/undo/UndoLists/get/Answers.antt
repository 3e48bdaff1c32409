use Rattle.std.proofs.Common.{ap, ◌∙◌}
use Rattle.finite_maps.specs.Map.{get}
use Rattle.row_tables.proofs.ListLemmas.{get-lists}
use Rattle.row_tables.proofs.undo.UndoLists.get.Goals as goal

-- a look-up in the tree map is one in the finite map
pub returns : goal.returns
returns c = c.get.ensures.value ∙ get-lists c.self.inside.lists.entries c.args.session ∙ ap (λ lists. get lists c.args.session) c.self.view_is
