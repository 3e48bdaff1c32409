use Rattle.std.proofs.Common.{◌≡◌, refl, sym, subst, ◌∙◌, true, false, inl, inr}
use Rattle.serde_json.specs.View.{view}
use Rattle.machine_model.specs.Outcome.{IsOutcomeOf}
use Rattle.book_format.proofs.Steps.{not-own}
use Rattle.book_format.proofs.reading.outcomes.outcome_of.Goals as goal

pub returns-then-not-is_outcome_of : goal.returns-then-not-is_outcome_of
returns-then-not-is_outcome_of c =
    inl (inr (
      not-own c.args.spec.now.run (view c.args.value.now) c.in-Ok.outcome c.in-Ok.ensures.stands (λ own.
          let told = subst (IsOutcomeOf c.args.spec.now.run) (sym c.sessions.ensures) own in
          (let f : true ≡ false = sym (c.is_outcome_of.ensures.1 told) ∙ c.if-not-is_outcome_of.true in absurd (cc))),
      refl,
    ))
