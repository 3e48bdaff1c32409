use Rattle.std.specs.Prelude.{flat_map, take, zip}
use Rattle.transcripts.specs.Counted.{Wrote}
use Rattle.transcripts.specs.Text.{session_text}
use Rattle.transcripts.proofs.printing.print.Given as goal

-- the first sessions are written
abbrev pub invariant-loop-session : goal.invariant-loop-session
invariant-loop-session g l = Wrote g.W.Write.contents l.fn.out l.out
    (flat_map (session_text l.names.steps.now) (take l.session (zip l.names.sessions.now l.transcript-items)))
