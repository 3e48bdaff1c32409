use Rattle.std.proofs.Common.{◌≡◌, ◌<◌, sym, subst, ◌∙◌, true, false, length, All, [], arith}
use Rattle.machine_model.specs.Outcome.{IsToldOf}
use Rattle.book_format.proofs.Steps.{same-at}
use Rattle.book_format.proofs.reading.outcomes.is_outcome_of.Goals as goal

pub returns-then-not-is_own : goal.returns-then-not-is_own
returns-then-not-is_own c = (
  λ h. absurd (let f : false ≡ true = h in cc),
  λ all.
      let below : c.loop-session.session < length c.args.sessions.now = omega arith in
      let is = c.events.ensures ∙ c.index-sessions-session.is ∙ same-at c.args.sessions.now c.loop-session.session c.index-sessions-session.result [] below in
      let told = subst (All (IsToldOf c.args.spec.now.run.steps c.loop-session.session)) (sym is) (all.own c.loop-session.session) in
      (let f : true ≡ false = sym (c.is_own.ensures.1 told) ∙ c.if-not-is_own.true in absurd (cc)),
)
