use Rattle.marked_rows.proofs.ChangeLemmas.{new-kept, new-seen}
use Rattle.marked_rows.proofs.rows.MarkedRows.new.Goals as goal

pub invariant_of-result : goal.invariant_of-result
invariant_of-result c =
    new-kept c.new.result c.new-3.result c.new-2.result c.new-4.result c.new.ensures c.new-2.ensures c.new-3.ensures c.new-4.ensures

pub returns : goal.returns
returns c = new-seen c.new.result c.new-3.result c.new-2.result c.new-4.result c.new.ensures c.new-2.ensures c.new-3.ensures c.new-4.ensures
