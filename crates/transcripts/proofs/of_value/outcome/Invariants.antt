use Rattle.std.proofs.Common.{◌≡◌, ◌++◌, option_map, drop}
use Rattle.serde_json.specs.View.{view, items_view}
use Rattle.transcripts.specs.JsonReading.{event_in, each_in, list_in}
use Rattle.transcripts.proofs.of_value.outcome.Given as goal

-- what was read, before what is still to be read, is the whole
abbrev pub invariant-loop-session : goal.invariant-loop-session
invariant-loop-session l =
    option_map (λ more. l.transcripts.items ++ more) (each_in (list_in event_in) (items_view (drop l.session-index l.session-items)))
    ≡ list_in (list_in event_in) (view l.value)
