use Rattle.std.proofs.Common.{◌≡◌, drop}
use Rattle.fact_books.specs.Runs.{first_gap}
use Rattle.fact_books.proofs.gaps.first_gap.Given as goal

abbrev pub invariant-loop-run : goal.invariant-loop-run
invariant-loop-run l = first_gap l.from l.runs ≡ first_gap l.next (drop l.run-index l.runs)
