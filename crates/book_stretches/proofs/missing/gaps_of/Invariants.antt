use Rattle.std.proofs.Common.{◌≡◌, ◌++◌, map, drop}
use Rattle.class_stretches.specs.Stretches.{run_of}
use Rattle.book_stretches.specs.Missing.{gaps}
use Rattle.book_stretches.proofs.missing.gaps_of.Given as goal

-- the gaps before the next run, and what is left of them
abbrev pub invariant-loop-run : goal.invariant-loop-run
invariant-loop-run l = map run_of l.found.items ++ gaps l.next (drop l.run-index l.runs) l.count ≡ gaps 0 l.runs l.count
