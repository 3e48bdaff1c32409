use Rattle.std.proofs.Common.{◌≡◌, map, take}
use Rattle.serde_json.specs.View.{view}
use Rattle.transcripts.specs.Json.{cell_data}
use Rattle.transcripts.proofs.to_value.row_value.Given as goal

-- the values so far
abbrev pub invariant-loop-value : goal.invariant-loop-value
invariant-loop-value l = map view l.values.items ≡ map cell_data (take l.value-index l.row)
