use Rattle.std.proofs.Common.{subst}
use Rattle.std.specs.Prelude.{All}
use Rattle.events.specs.Fits.{EventFits}
use Rattle.transcripts.proofs.Walking.{all-next, all-past}
use Rattle.transcripts.proofs.outcome.known_transcript.Goals as goal

-- one more event fits
pub loop-event-preserved : goal.loop-event-preserved
loop-event-preserved c = all-next EventFits _ _ _ c.loop-event-test.true c.event-item.is c.loop-event.invariant c.known_event.ensures

-- all events do
pub returns : goal.returns
returns c = subst (All EventFits) c.events-event-items.ensures (all-past EventFits _ _ c.loop-event-test.false c.loop-event.invariant)
