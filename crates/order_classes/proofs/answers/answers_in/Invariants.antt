use Rattle.std.proofs.Common.{◌≡◌, ◌++◌, drop}
use Rattle.order_classes.specs.Letters.{answers_in}
use Rattle.order_classes.proofs.answers.answers_in.Given as goal

abbrev pub invariant-loop-event : goal.invariant-loop-event
invariant-loop-event l = l.answers ++ answers_in (drop l.event-index l.events) ≡ answers_in l.events
