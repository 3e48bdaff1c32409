use Rattle.serde_json.specs.View.{view}
use Rattle.transcripts.proofs.JsonLaws.{stands, stands_for_none}
use Rattle.transcripts.proofs.of_value.outcome_of_value.Goals as goal

pub returns-clause-stands : goal.returns-clause-stands
returns-clause-stands c = stands c.outcome.result (view c.args.value.now) c.outcome.ensures

pub returns-clause-bad : goal.returns-clause-bad
returns-clause-bad c = stands_for_none c.outcome.result (view c.args.value.now) c.outcome.ensures
