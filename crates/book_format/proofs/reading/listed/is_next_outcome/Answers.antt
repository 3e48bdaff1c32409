use Rattle.std.proofs.Common.{sym, subst, inl, refl}
use Rattle.machine_model.specs.Outcome.{IsOutcomeOf}
use Rattle.transcripts.specs.Outcome.{OutcomeFits}
use Rattle.book_format.proofs.reading.listed.is_next_outcome.Goals as goal

pub returns-then-is_outcome_of : goal.returns-then-is_outcome_of
returns-then-is_outcome_of c = λ h.
    inl (
      c.args.text.now,
      record {
        value = refl;
        fits = subst OutcomeFits (sym c.requires) c.known.ensures;
        own = subst (IsOutcomeOf c.args.spec.now.run) (sym c.requires)
            (subst (IsOutcomeOf c.args.spec.now.run) c.sessions.ensures (c.is_outcome_of.ensures.0 c.if-is_outcome_of.true));
      },
      inl (c.stands_after.ensures.0 h, refl),
    )
