use Rattle.std.proofs.Common.{refl, subst}
use Rattle.std.specs.Prelude.{All}
use Rattle.events.specs.Fits.{HasStep}
use Rattle.transcripts.proofs.Walking.{all-next, all-past}
use Rattle.transcripts.proofs.names.names_few.Goals as goal

-- one more event names a step below the count
pub loop-event-preserved : goal.loop-event-preserved
loop-event-preserved c =
    all-next (HasStep c.args.count) _ _ _ c.loop-event-test.true c.event-item.is c.loop-event.invariant (c.names_one.ensures.0 c.if-not-names_one.false)

-- all events do
pub returns : goal.returns
returns c =
    let all = all-past (HasStep c.args.count) _ _ c.loop-event-test.false c.loop-event.invariant in
    (λ _. subst (All (HasStep c.args.count)) c.events-event-items.ensures all, λ _. refl)
