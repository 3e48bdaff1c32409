use Rattle.std.proofs.Common.{◌≡◌, ◌++◌, flat_map, take}
use Rattle.std.specs.String.{string_bytes}
use Rattle.class_texts.specs.Beneath.{event_beneath}
use Rattle.class_texts.proofs.outcomes.push_events.Given as goal

-- the events passed are put
abbrev pub invariant-loop-event : goal.invariant-loop-event
invariant-loop-event l = string_bytes l.text ≡ string_bytes l.fn.text ++ flat_map (event_beneath l.steps) (take l.event-index l.events)
