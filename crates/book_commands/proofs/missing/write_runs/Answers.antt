use Rattle.transcripts.proofs.Writing.{prints-stopped}
use Rattle.book_commands.proofs.RunLemmas.{run-stopped}
use Rattle.book_commands.proofs.missing.write_runs.Goals as goal

-- a line is not written
pub returns-in_err-write_run : goal.returns-in_err-write_run
returns-in_err-write_run g c =
    prints-stopped _ _ _ _ _
    (run-stopped g.W.Write.contents _ _ c.args.asked c.args.runs.now _ c.loop-place.place _ c.loop-place-test.true c.loop-place.invariant
    c.in_err-write_run.ensures)
    c.from_residual.ensures.0
