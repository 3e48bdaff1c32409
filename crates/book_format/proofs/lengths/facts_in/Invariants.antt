use Rattle.std.proofs.Common.{◌≡◌, min, take}
use Rattle.std.specs.Prelude.{All}
use Rattle.book_format.specs.BookText.{total_of}
use Rattle.book_format.specs.Laws.{RunFits}
use Rattle.book_format.proofs.lengths.facts_in.Given as goal

-- the facts of the first runs, whose numbers have their widths
abbrev pub invariant-loop-run : goal.invariant-loop-run
invariant-loop-run l = (l.facts ≡ min (total_of (take l.run-index l.runs)) 18446744073709551615) × All RunFits (take l.run-index l.runs)
