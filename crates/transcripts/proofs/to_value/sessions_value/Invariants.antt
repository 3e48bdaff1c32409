use Rattle.std.proofs.Common.{◌≡◌, map, take}
use Rattle.serde_json.specs.View.{view}
use Rattle.transcripts.specs.Json.{session_data}
use Rattle.transcripts.proofs.to_value.sessions_value.Given as goal

-- the values so far
abbrev pub invariant-loop-transcript : goal.invariant-loop-transcript
invariant-loop-transcript l = map view l.sessions.items ≡ map session_data (take l.transcript-index l.transcripts)
