use Rattle.std.proofs.Common.{◌≡◌, ◌≤◌, ◌+◌, length, take, vec_len, vec_capacity}
use Rattle.events.proofs.turn.copied.Given as goal

-- what is copied so far; there is room for the rest
abbrev pub invariant-loop-event : goal.invariant-loop-event
invariant-loop-event l = record {
  all : l.copy.items ≡ take l.event-index l.events;
  room : vec_len l.copy + length l.events ≤ vec_capacity l.copy + l.event-index;
}
