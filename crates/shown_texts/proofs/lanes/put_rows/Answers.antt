use Rattle.shown_texts.proofs.RowLemmas.{rows-more}
use Rattle.shown_texts.proofs.lanes.put_rows.Goals as goal

-- one row more
pub loop-row-preserved : goal.loop-row-preserved
loop-row-preserved c =
    rows-more _ _ c.loop-row.row _ _ _ _ _ c.loop-row.invariant c.in_ok-push.ensures.ok c.in_ok-lane_row.ensures c.left_at.ensures
