use Rattle.std.proofs.Common.{sym}
use Rattle.book_format.proofs.ItemLemmas.{not_four_items}
use Rattle.book_format.proofs.reading.runs.span_of_items.Goals as goal

pub returns-then-items-ne4 : goal.returns-then-items-ne4
returns-then-items-ne4 c = sym (not_four_items c.args.outcomes c.args.items.now c.if-items-ne4.true)
