use Rattle.book_format.proofs.NumberingLemmas.{AreFlaggedTo}
use Rattle.book_format.proofs.one_form.flagged.Given as goal

-- the first outcomes are looked at
abbrev pub invariant-loop-n : goal.invariant-loop-n
invariant-loop-n l = AreFlaggedTo l.outcomes l.flags l.n l.out.items
