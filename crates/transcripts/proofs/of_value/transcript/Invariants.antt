use Rattle.std.proofs.Common.{◌≡◌, ◌++◌, option_map, drop}
use Rattle.serde_json.specs.View.{view, items_view}
use Rattle.transcripts.specs.JsonReading.{event_in, each_in, list_in}
use Rattle.transcripts.proofs.of_value.transcript.Given as goal

-- what was read, before what is still to be read, is the whole
abbrev pub invariant-loop-event : goal.invariant-loop-event
invariant-loop-event l =
    option_map (λ more. l.transcript ++ more) (each_in event_in (items_view (drop l.event-index l.event-items)))
    ≡ list_in event_in (view l.value)
