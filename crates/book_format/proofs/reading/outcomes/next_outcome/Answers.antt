use Rattle.std.proofs.Common.{◌≡◌, refl, sym, subst, ◌∙◌, true, false, inl, inr}
use Rattle.serde_json.specs.View.{view}
use Rattle.book_format.specs.Forms.{ComesBefore}
use Rattle.book_format.specs.Reading.{StandsAfter}
use Rattle.book_format.proofs.Steps.{outcome-value}
use Rattle.book_format.proofs.reading.outcomes.next_outcome.Goals as goal

pub returns-then-not-stands_after : goal.returns-then-not-stands_after
returns-then-not-stands_after c =
    inl (inl (
      c.in-Ok.outcome,
      outcome-value c.args.spec.now.run (view c.args.value.now) c.in-Ok.outcome c.in-Ok.ensures,
      inr (
        λ after.
            (let f : true ≡ false = sym (c.stands_after.ensures.1
            (subst (StandsAfter ComesBefore c.args.before.now) (sym (c.as_outcome.ensures ∙ c.in_ok-outcome.ensures)) after)) ∙ c.if-not-stands_after.true in absurd (cc)),
        refl,
      ),
    ))
