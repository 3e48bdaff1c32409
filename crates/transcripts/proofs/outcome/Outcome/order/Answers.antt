use Rattle.std.proofs.Common.{sym, ◌∙◌}
use Rattle.transcripts.specs.Compact.{bytes_cmp, outcome_json}
use Rattle.transcripts.proofs.OutcomeOrder.{outcome_same}
use Rattle.transcripts.proofs.outcome.Outcome.order.Goals as goal

-- texts that tie tell one outcome
pub returns-clause-tells : goal.returns-clause-tells
returns-clause-tells c =
    let texts = c.outcome_order.ensures ∙ (λ i. bytes_cmp (outcome_json (c.sessions.ensures i)) (outcome_json (c.sessions-2.ensures i))) in
    λ tie. outcome_same c.args.self.now c.args.other.now (sym texts ∙ tie)
