use Rattle.std.proofs.Common.{rules}
use Rattle.fact_books.proofs.BookLemmas.{of-one-text}
use Rattle.fact_books.proofs.joining.join.Goals as goal

pub union-requires : goal.union-requires
union-requires c = of-one-text _ _ _ _ c.known.ensures.file c.known-2.ensures.file c.text.ensures c.text-2.ensures (search rules)

pub returns-in-Ok-clause-same : goal.returns-in-Ok-clause-same
returns-in-Ok-clause-same c = of-one-text _ _ _ _ c.known.ensures.file c.known-2.ensures.file c.text.ensures c.text-2.ensures (search rules)
