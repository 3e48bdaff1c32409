use Rattle.std.proofs.Common.{ℕ, ◌<◌, get_or}
use Rattle.events.specs.declared.event.Event.{Event}
use Rattle.machine_model.specs.Outcome.{IsToldOf}
use Rattle.book_format.proofs.reading.outcomes.is_own.Given as goal

abbrev pub invariant-loop-event : goal.invariant-loop-event
invariant-loop-event l = (k : ℕ) (d : Event) → k < l.event-index → IsToldOf l.spec.run.steps l.session (get_or l.events k d)
