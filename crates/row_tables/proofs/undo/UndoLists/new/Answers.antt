use Rattle.std.proofs.Common.{ap, ◌∙◌, refl}
use Rattle.finite_maps.specs.Map.{of_entries}
use Rattle.row_tables.specs.Layers.{session_order}
use Rattle.row_tables.proofs.undo.UndoLists.new.Goals as goal

-- no entries are the empty map
pub returns : goal.returns
unfolding of_entries
returns c = ap (of_entries session_order) c.new.ensures.empty ∙ refl
