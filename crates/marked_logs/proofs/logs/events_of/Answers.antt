use Rattle.marked_logs.proofs.LogLemmas.{all-events}
use Rattle.marked_logs.proofs.logs.events_of.Goals as goal

pub returns : goal.returns
returns g c =
    all-events (λ e. e.now) _ _ c.loop-event.events.items c.reverse.new.self.items c.loop-event.invariant.1 c.in_default.ensures.list
    c.reverse.ensures.items
