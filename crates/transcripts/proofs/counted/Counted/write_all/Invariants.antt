use Rattle.std.specs.Prelude.{◌-◌, ◌≤◌, length, take}
use Rattle.transcripts.specs.Counted.{Wrote}
use Rattle.transcripts.proofs.counted.Counted.write_all.Given as goal

-- the writer has what is done of the text
abbrev pub invariant-loop-done : goal.invariant-loop-done
invariant-loop-done g l = (l.done ≤ length l.text) × Wrote g.W.Write.contents l.fn.self l.self (take l.done l.text)

abbrev pub decreases-loop-done : goal.decreases-loop-done
decreases-loop-done g l = length l.text - l.done
