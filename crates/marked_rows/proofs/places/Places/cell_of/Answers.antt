use Rattle.marked_rows.proofs.PlaceLemmas.{absent-gap}
use Rattle.marked_rows.proofs.places.Places.cell_of.Goals as goal

pub returns-in-Err : goal.returns-in-Err
returns-in-Err c =
    c.table-keys.ensures.absent c.args.key.now (absent-gap c.table-keys.result.now c.args.key.now c.in-Err.field-0 c.in-Err.ensures.gap)
