use Rattle.std.proofs.Common.{◌≡◌, sym, ap, ◌∙◌, subst}
use Rattle.transcripts.specs.Compact.{outcome_json}
use Rattle.transcripts.specs.Outcome.{OutcomeFits}
use Rattle.transcripts.proofs.CompactText.{outcome-text}
use Rattle.compact_outcomes.proofs.text.CompactOutcome.as_bytes.Goals as goal

pub returns-clause-compact : goal.returns-clause-compact
returns-clause-compact c =
    let json : c.self.inside.text.now ≡ outcome_json c.args.self.now = sym c.self.invariant.compact ∙ ap outcome_json c.self.view_is in
    let fits : OutcomeFits c.args.self.now = subst OutcomeFits c.self.view_is c.self.invariant.fits in
    json ∙ sym (outcome-text c.args.self.now fits)
