use Rattle.std.proofs.Common.{ap, ◌∙◌}
use Rattle.serde_json.specs.Written.{compact_text}
use Rattle.transcripts.specs.Json.{outcome_data}
use Rattle.transcripts.proofs.CompactText.{outcome-text}
use Rattle.transcripts.proofs.to_value.outcome_value.Goals as goal

-- the compact text is that of the format's table
pub returns-clause-text : goal.returns-clause-text
returns-clause-text c = ap compact_text (c.in_ok-value.ensures ∙ ap outcome_data c.sessions.ensures) ∙ outcome-text c.args.outcome.now c.known.ensures
