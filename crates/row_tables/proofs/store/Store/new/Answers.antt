use Rattle.std.proofs.Common.{sym, ◌∙◌, ap, subst}
use Rattle.lock_modes.specs.Rows.{Rows'}
use Rattle.row_tables.specs.Undo.{AreApart, layers}
use Rattle.row_tables.proofs.RestoreLemmas.{empty-apart, empty-layers}
use Rattle.row_tables.proofs.store.Store.new.Goals as goal

pub invariant_of-result : goal.invariant_of-result
invariant_of-result c = subst AreApart (sym c.new-2.ensures) empty-apart

pub returns : goal.returns
returns c = ap (λ (rows : Rows'). layers rows c.new-2.result) c.new.ensures ∙ ap (layers _) c.new-2.ensures ∙ empty-layers
