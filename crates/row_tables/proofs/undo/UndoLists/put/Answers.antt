use Rattle.std.proofs.Common.{ap, ◌∙◌}
use Rattle.finite_maps.specs.Map.{insert}
use Rattle.row_tables.proofs.ListLemmas.{put-lists}
use Rattle.row_tables.proofs.undo.UndoLists.put.Goals as goal

-- an insert to the tree map is one to the finite map
pub returns-clause-ok : goal.returns-clause-ok
returns-clause-ok c = put-lists c.self.inside.lists.entries c.insert.new.self.entries c.args.session c.args.list c.in_ok-insert.ensures.updates.0
    ∙ ap (λ lists. insert lists c.args.session c.args.list) c.self.view_is
