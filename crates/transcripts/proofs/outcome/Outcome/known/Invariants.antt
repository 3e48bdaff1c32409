use Rattle.std.proofs.Common.{take}
use Rattle.transcripts.specs.Outcome.{OutcomeFits}
use Rattle.transcripts.proofs.outcome.Outcome.known.Given as goal

-- the transcripts so far fit
abbrev pub invariant-loop-transcript : goal.invariant-loop-transcript
invariant-loop-transcript l = OutcomeFits (take l.transcript-index l.transcript-items)
