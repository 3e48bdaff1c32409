use Rattle.std.proofs.Common.{◌≡◌, ◌≤◌, length}
use Rattle.lock_queues.specs.Records.{held_map}
use Rattle.lock_queues.proofs.held.reach.Given as goal

abbrev pub invariant-loop-more : goal.invariant-loop-more
invariant-loop-more l = record {
  same : held_map l.sessions.items ≡ held_map l.initial.sessions.items;
  long : l._more ≤ length l.sessions.items;
}
