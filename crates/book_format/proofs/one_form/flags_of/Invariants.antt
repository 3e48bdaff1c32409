use Rattle.book_format.proofs.NumberingLemmas.{IsFlagging}
use Rattle.book_format.proofs.one_form.flags_of.Given as goal

-- the first runs are looked at
abbrev pub invariant-loop-run : goal.invariant-loop-run
invariant-loop-run l = IsFlagging l.fn.outcomes l.runs l.run-index l.flags.items
