use Rattle.std.specs.Prelude.{All, length, take}
use Rattle.events.specs.Fits.{HasStep}
use Rattle.transcripts.proofs.names.Names.fit.Given as goal

-- the first sessions name steps that have names
abbrev pub invariant-loop-transcript : goal.invariant-loop-transcript
invariant-loop-transcript l = All (All (HasStep (length l.self.steps.now))) (take l.transcript-index l.transcript-items)
