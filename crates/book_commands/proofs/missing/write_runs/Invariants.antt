use Rattle.transcripts.specs.Counted.{Wrote}
use Rattle.book_commands.specs.Missing.{run_lines}
use Rattle.book_commands.proofs.missing.write_runs.Given as goal

-- the lines before this one are written
abbrev pub invariant-loop-place : goal.invariant-loop-place
invariant-loop-place g l = Wrote g.W.Write.contents l.fn.out l.out (run_lines l.asked l.runs l.place)
