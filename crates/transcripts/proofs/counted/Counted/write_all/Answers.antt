use Rattle.std.proofs.Common.{arith}
use Rattle.std.proofs.lemmas.List.{length-take, length-drop}
use Rattle.transcripts.proofs.Writing.{prints-stopped, wrote-next, stopped-next}
use Rattle.transcripts.proofs.counted.Counted.write_all.Goals as goal

-- a call failed in mid-text
pub returns-in_err-done : goal.returns-in_err-done
returns-in_err-done g c =
    prints-stopped _ _ _ _ _ (stopped-next _ _ _ _ _ c.loop-done.done c.loop-done.invariant.1 c.in_err-done.ensures) c.from_residual.ensures.0

-- a call took some more of the text
pub loop-done-preserved : goal.loop-done-preserved
loop-done-preserved g c =
    let took = c.in_ok-done.ensures in
    let known = c.loop-done.invariant in
    (omega (arith, simp (length-take, length-drop) at took.1), wrote-next _ _ _ _ _ c.loop-done.done _ known.1 took.2)
