use Rattle.std.proofs.Common.{◌≡◌, ◌<◌, length}
use Rattle.std.specs.Vec.Iter.{into_iter_items}
use Rattle.event_tree.specs.Lists.{Keeps}
use Rattle.marked_execution.proofs.LogLemmas.{telling_each}
use Rattle.marked_execution.proofs.run.tell_items.Given as goal

-- with those that are left all are told, and marks, sessions and lists stay
abbrev pub invariant-loop-event : goal.invariant-loop-event
invariant-loop-event l = record {
  inside : l.session < length l.logs.now;
  told : telling_each l.logs.now l.session (into_iter_items l.event-iterator) ≡ telling_each l.initial.logs.now l.session l.fn.events.items;
  marked : l.logs.marked ≡ l.initial.logs.marked;
  sessions : length l.logs.now ≡ length l.initial.logs.now;
  lists : Keeps l.initial.logs.lists l.logs.lists;
}
