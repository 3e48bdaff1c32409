use Rattle.marked_rows.proofs.PictureLemmas.{same-value}
use Rattle.marked_rows.proofs.picture.is_same_value.Goals as goal

pub returns : goal.returns
returns c = same-value c.args.value.now c.args.other.now c.cmp.result c.is_eq.result c.cmp.ensures c.is_eq.ensures
