use Rattle.std.specs.Prelude.{All, take}
use Rattle.events.specs.Fits.{HasStep}
use Rattle.transcripts.proofs.names.names_few.Given as goal

-- the first events name steps below the count
abbrev pub invariant-loop-event : goal.invariant-loop-event
invariant-loop-event l = All (HasStep l.count) (take l.event-index l.event-items)
