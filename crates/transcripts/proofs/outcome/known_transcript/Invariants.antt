use Rattle.std.proofs.Common.{All, take}
use Rattle.events.specs.Fits.{EventFits}
use Rattle.transcripts.proofs.outcome.known_transcript.Given as goal

-- the events so far fit
abbrev pub invariant-loop-event : goal.invariant-loop-event
invariant-loop-event l = All EventFits (take l.event-index l.event-items)
