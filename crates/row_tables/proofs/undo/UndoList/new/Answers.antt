use Rattle.std.proofs.Common.{ap, ◌∙◌, refl}
use Rattle.finite_maps.specs.Map.{of_entries}
use Rattle.lock_modes.specs.RowPlace.{place_order}
use Rattle.row_tables.proofs.undo.UndoList.new.Goals as goal

-- no entries are the empty map
pub returns : goal.returns
unfolding of_entries
returns c = ap (of_entries place_order) c.new.ensures ∙ refl
