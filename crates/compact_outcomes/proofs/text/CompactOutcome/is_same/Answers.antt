use Rattle.std.proofs.Common.{sym, ap, ◌∙◌}
use Rattle.transcripts.specs.Compact.{outcome_json}
use Rattle.compact_outcomes.proofs.TextLemmas.{json-one}
use Rattle.compact_outcomes.proofs.text.CompactOutcome.is_same.Goals as goal

-- each text tells its outcome
pub returns : goal.returns
returns c = (
  λ yes. json-one c.args.self.now c.args.other.now c.known.ensures.fits c.known-2.ensures.fits
      (sym c.as_bytes.ensures.json ∙ c.are_same.ensures.0 yes ∙ c.as_bytes-2.ensures.json),
  λ same. c.are_same.ensures.1 (c.as_bytes.ensures.json ∙ ap outcome_json same ∙ sym c.as_bytes-2.ensures.json),
)
