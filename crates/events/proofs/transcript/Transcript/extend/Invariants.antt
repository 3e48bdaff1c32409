use Rattle.std.proofs.Common.{◌≡◌, ◌≤◌, ◌+◌, ◌++◌, length, take, vec_len, vec_capacity}
use Rattle.events.proofs.transcript.Transcript.extend.Given as goal

-- what stood there, and what is copied so far; there is room for the rest
abbrev pub invariant-loop-event : goal.invariant-loop-event
invariant-loop-event l = record {
  all : l.self-inside.events.items ≡ l.initial.self-inside.events.items ++ take l.event-index l.events;
  room : vec_len l.self-inside.events + length l.events ≤ vec_capacity l.self-inside.events + l.event-index;
}
