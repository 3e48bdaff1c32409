use Rattle.std.proofs.Common.{◌≡◌, ◌++◌, take}
use Rattle.std.specs.Prelude.{flat_map, string_bytes}
use Rattle.compact_outcomes.specs.CompactTexts.{after_comma}
use Rattle.compact_outcomes.specs.CompactTexts.{event_text}
use Rattle.compact_outcomes.proofs.compact.push_other_events.Given as goal

-- the first events are pushed
abbrev pub invariant-loop-event : goal.invariant-loop-event
invariant-loop-event l = string_bytes l.text ≡ string_bytes l.fn.text ++ flat_map (after_comma event_text) (take l.event-index l.events)
