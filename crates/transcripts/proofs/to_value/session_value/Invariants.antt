use Rattle.std.proofs.Common.{◌≡◌, map, take}
use Rattle.serde_json.specs.View.{view}
use Rattle.transcripts.specs.Json.{event_data}
use Rattle.transcripts.proofs.to_value.session_value.Given as goal

-- the values so far
abbrev pub invariant-loop-event : goal.invariant-loop-event
invariant-loop-event l = map view l.values.items ≡ map event_data (take l.event-index l.events)
