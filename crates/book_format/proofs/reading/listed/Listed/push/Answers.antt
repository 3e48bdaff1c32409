use Rattle.std.proofs.Common.{sym, ap, ◌∙◌, subst, [], ◌∷◌, ◌++◌, Ok}
use Rattle.transcripts.specs.Json.{outcome_data}
use Rattle.book_format.specs.Reading.{IsListed, IsNextOutcome}
use Rattle.book_format.proofs.TextBooks.{outcomes-push}
use Rattle.book_format.proofs.reading.listed.Listed.push.Goals as goal

-- the values of those before, and of the one behind them, are read
pub invariant_of-self-2 : goal.invariant_of-self-2
invariant_of-self-2 c =
    let spec = c.self.inside.spec.now.run in
    let before = c.self.inside.outcomes in
    let text = c.in_ok-text.text in
    let pushed = subst (IsListed spec) (sym (c.in_ok-push.ensures.ok ∙ ap (λ o. before ++ o ∷ []) c.as_outcome-2.ensures))
    (outcomes-push spec [] before text c.self.invariant.1
    (subst (λ o. IsNextOutcome spec before (outcome_data o) (Ok o)) c.as_outcome.ensures (c.is_next_outcome.ensures c.if-not-is_next_outcome.false))) in
    (c.self.invariant.0, pushed)
