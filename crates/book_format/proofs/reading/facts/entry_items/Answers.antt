use Rattle.std.proofs.Common.{sym}
use Rattle.book_format.proofs.ItemLemmas.{not_three_items}
use Rattle.book_format.proofs.reading.facts.entry_items.Goals as goal

pub returns-then-items-ne3 : goal.returns-then-items-ne3
returns-then-items-ne3 c = sym (not_three_items c.args.items.now c.if-items-ne3.true)
