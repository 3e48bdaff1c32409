use Rattle.std.proofs.Common.{◌≡◌, drop, None}
use Rattle.line_moments.specs.Moments.{last_sent}
use Rattle.session_machine.proofs.telling.last_of.Given as goal

abbrev pub invariant-loop-event : goal.invariant-loop-event
invariant-loop-event l = last_sent l.last (drop l.event-index l.events) ≡ last_sent None l.events
