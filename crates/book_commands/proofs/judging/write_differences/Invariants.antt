use Rattle.transcripts.specs.Counted.{Wrote}
use Rattle.book_commands.specs.Judging.{difference_lines}
use Rattle.book_commands.proofs.judging.write_differences.Given as goal

-- the lines before this one are written
abbrev pub invariant-loop-index : goal.invariant-loop-index
invariant-loop-index g l = Wrote g.W.Write.contents l.fn.out l.out (difference_lines l.differences l.index)
