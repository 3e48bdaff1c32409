use Rattle.transcripts.proofs.Writing.{prints-stopped}
use Rattle.book_commands.proofs.JudgeLemmas.{line-stopped}
use Rattle.book_commands.proofs.judging.write_differences.Goals as goal

-- a line is not written
pub returns-in_err-write_difference : goal.returns-in_err-write_difference
returns-in_err-write_difference g c =
    prints-stopped _ _ _ _ _
    (line-stopped g.W.Write.contents _ _ c.args.differences.now _ c.loop-index.index _ c.loop-index-test.true c.loop-index.invariant
    c.in_err-write_difference.ensures)
    c.from_residual.ensures.0
