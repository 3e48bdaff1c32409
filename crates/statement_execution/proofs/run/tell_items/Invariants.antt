use Rattle.std.proofs.Common.{◌≡◌, ◌++◌}
use Rattle.std.specs.Vec.Iter.{into_iter_items}
use Rattle.statement_execution.proofs.run.tell_items.Given as goal

-- with those that are left all are told
abbrev pub invariant-loop-event : goal.invariant-loop-event
invariant-loop-event l = l.log ++ into_iter_items l.event-iterator ≡ l.initial.log ++ l.fn.events.items
