use Rattle.std.proofs.Common.{◌≡◌, sym, ap, ◌∙◌, subst, ◌+◌, ◌≤◌, ◌*◌, ◌-◌, false}
use Rattle.spec_reader.specs.declared.TheConstants.{MAX_ITEMS}
use Rattle.step_reducer.specs.Walking.{Walking, GivesRun}
use Rattle.step_reducer.proofs.Givings.{rest-kept, sent-kept, fact-given}
use Rattle.step_reducer.proofs.walker.Walker.next.Goals as goal

pub invariant_of-self-2 : goal.invariant_of-self-2
invariant_of-self-2 c =
    let x = c.self.inside in
    let y = c.self-2.inside in
    let gives = subst (GivesRun c.args.self.now c.next_run.new.self) c.in-Some.is c.in_ok-run.ensures.run in
    let fresh : x.is_spent ≡ false = ap (λ (v : Walking). v.spent) c.self.view_is ∙ sym (ap (λ (v : Walking). v.spent) gives.2) ∙ c.in_ok-run.ensures.whole in
    let standing = c.self.invariant.0 fresh in (
      λ whole. rest-kept y.spec.now y.reduce y.first y.at y.end y.sent y.walk y.rest y.is_spent c.in-Some.run'
          c.args.self.now c.next_run.new.self c.self-2.view_is gives c.in_ok-run.ensures.whole c.self-2.invariant.0
          (subst (λ (v : Walking). v.first ≤ v.at) c.self.view_is standing.from)
          (subst (λ (v : Walking). v.sent ≤ MAX_ITEMS * (v.at - v.first)) c.self.view_is standing.sent_few) c.if-first-end.false,
      sent-kept y.spec.now y.reduce y.first y.at y.end y.sent y.rest y.is_spent c.in-Some.run'
          c.args.self.now c.next_run.new.self c.self-2.view_is gives c.if-first-end.false (c.in-Some.run'.first + 1),
    )

pub returns-clause-fact : goal.returns-clause-fact
returns-clause-fact c =
    let y = c.self-2.inside in
    let gives = subst (GivesRun c.args.self.now c.next_run.new.self) c.in-Some.is c.in_ok-run.ensures.run in
    fact-given y.spec.now y.reduce y.first y.at y.end y.sent y.rest y.is_spent c.in-Some.run' c.in-Ok.one
    c.args.self.now c.next_run.new.self c.self-2.view_is gives c.in-Ok.ensures
