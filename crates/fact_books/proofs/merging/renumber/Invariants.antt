use Rattle.std.proofs.Common.{◌≡◌, map, take}
use Rattle.fact_books.specs.Runs.{renamed}
use Rattle.fact_books.proofs.merging.renumber.Given as goal

abbrev pub invariant-loop-run : goal.invariant-loop-run
invariant-loop-run l = l.out.items ≡ map (renamed l.numbers) (take l.run-index l.runs)
