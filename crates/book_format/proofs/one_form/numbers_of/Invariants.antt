use Rattle.book_format.proofs.NumberingLemmas.{AreNumbersTo}
use Rattle.book_format.proofs.one_form.numbers_of.Given as goal

-- the first outcomes have their places
abbrev pub invariant-loop-outcome : goal.invariant-loop-outcome
invariant-loop-outcome l = AreNumbersTo l.outcomes l.named l.outcome-index l.numbers.items
