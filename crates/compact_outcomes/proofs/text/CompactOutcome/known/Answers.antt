use Rattle.std.proofs.Common.{subst, sym, ap, ◌∙◌}
use Rattle.std.specs.Prelude.{IsUtf8}
use Rattle.transcripts.specs.Compact.{outcome_json}
use Rattle.transcripts.specs.Outcome.{OutcomeFits}
use Rattle.compact_outcomes.proofs.text.CompactOutcome.known.Goals as goal

pub returns-clause-fits : goal.returns-clause-fits
returns-clause-fits c = subst OutcomeFits c.self.view_is c.self.invariant.fits

pub returns-clause-utf8 : goal.returns-clause-utf8
returns-clause-utf8 c =
    let same = sym c.self.invariant.compact ∙ ap outcome_json c.self.view_is ∙ sym c.as_bytes-text.ensures.json in
    subst IsUtf8 (same ∙ c.as_bytes-text.ensures.compact) c.self.invariant.utf8
