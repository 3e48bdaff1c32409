use Rattle.std.proofs.Common.{sym, ap, ◌∙◌}
use Rattle.finite_maps.specs.Map.{entries}
use Rattle.row_tables.proofs.RestoreLemmas.{put_back, put_back-lay}
use Rattle.row_tables.proofs.undo.UndoList.restored.Goals as goal

pub loop-place-init : goal.loop-place-init
loop-place-init c =
    ap (λ es. put_back es c.in_ok-restored.restored) (c.into_iter-place-iterator.ensures.into_iter_gives ∙ c.iter-place-items.ensures)
    ∙ ap (put_back (entries c.args.self.now)) c.in_ok-restored.ensures
    ∙ put_back-lay c.args.self.now c.args.rows.now

-- the entry that is put back was the first of those left
pub loop-place-preserved : goal.loop-place-preserved
loop-place-preserved c =
    ap (put_back c.next.new.self) c.in_ok-restored-2.ensures
    ∙ ap (λ es. put_back es c.loop-place.restored) (sym c.in-Some.ensures.steps)
    ∙ c.loop-place.invariant
