use Rattle.std.proofs.Common.{sym, ap, ◌∙◌}
use Rattle.finite_maps.specs.Map.{entries, entries-of_entries}
use Rattle.lock_modes.specs.RowPlace.{place_order}
use Rattle.row_tables.proofs.undo.UndoList.iter.Goals as goal

-- the entries of the tree are those of the map
pub returns : goal.returns
returns c = c.iter.ensures ∙ sym (entries-of_entries place_order c.self.inside.places c.len-in_order.ensures.in_order) ∙ ap entries c.self.view_is
