use Rattle.line_moments.proofs.StaleReads.{values-by}
use Rattle.line_moments.proofs.stale.is_same_row.Goals as goal

pub returns : goal.returns
returns c = values-by c.args.a.now c.args.b.now c.are_same_values.result c.are_same_values.ensures
