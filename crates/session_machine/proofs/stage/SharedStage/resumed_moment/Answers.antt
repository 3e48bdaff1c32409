use Rattle.std.proofs.lemmas.List.Elements.{All-get_or}
use Rattle.std.proofs.Common.{◌≡◌, refl, ◌+◌, ◌<◌, sym, ap, ◌∙◌, subst, suc, drop, length, [], ◌∷◌, None, Some, arith}
use Rattle.lock_queues.specs.Laws.{IsBelow}
use Rattle.lock_queues.specs.LockTable.{grant, look_in}
use Rattle.lock_queues.specs.Reasons.{want_of}
use Rattle.lock_queues.specs.Rules.{wait_of}
use Rattle.line_moments.specs.Moments.{ending_by, last_sent}
use Rattle.line_moments.specs.declared.moment.Manner.TheVariants.{IsResumed}
use Rattle.events.specs.declared.event.Event.TheVariants.{Resumed}
use Rattle.session_machine.specs.SharedStage.{staged_of}
use Rattle.session_machine.specs.Telling.{had_of}
use Rattle.session_steps.specs.Acting.{forgot}
use Rattle.session_steps.specs.Going.{Standing, standing, IsToGo, told}
use Rattle.session_steps.specs.Stage.{no_member, statements_of, member_at, standing_at, RestIsOf}
use Rattle.session_steps.proofs.Stages.{resumed-to-go}
use Rattle.session_machine.proofs.Seeing.{traces-at, told-is, resumed-so, granted-below}
use Rattle.session_machine.proofs.stage.SharedStage.resumed_moment.Goals as goal

pub statements-requires : goal.statements-requires
statements-requires c =
    let x = staged_of c.args.before in
    All-get_or (RestIsOf (length c.args.spec.now.run.steps)) x.members c.args.session no_member c.requires.inside c.requires.stage.known c.in-Some.rest
    (sym c.rest.ensures ∙ c.in-Some.is)

pub trace_on-requires-clause-ready : goal.trace_on-requires-clause-ready
trace_on-requires-clause-ready c =
    let steps = c.args.spec.now.run.steps in
    let x = staged_of c.args.before in
    let i = c.args.session in
    let s = c.requires.next.0 in
    let next = c.requires.next.1 in
    let r = c.in-Some.rest in
    let is : (member_at x i).rest ≡ Some r = sym c.rest.ensures ∙ c.in-Some.is in
    let there : standing_at i (staged_of c.tell.new.self)
    ≡ standing x.store (grant x.locks s) (record { status = (member_at x i).state.status; transcript = Resumed ∷ [] }) =
    c.in_ok-tell.ensures.told ∙ ap (λ (z : Standing). told z Resumed) c.in_ok-forget.ensures.forgot
    ∙ ap (λ (z : Standing). told (forgot z) Resumed) (c.in_ok-grant.ensures.granted s next) in
    let go : IsToGo i x.store (grant x.locks s) (member_at x i).state.status (statements_of steps r.step) r.point.statement r.point.request =
    subst (λ j. (member_at x j).rest ≡ Some r → IsToGo j x.store (grant x.locks s) (member_at x j).state.status (statements_of steps r.step) r.point.statement r.point.request)
    c.requires.next.2 (resumed-to-go steps x s c.requires.stage next r) is in
    subst (λ (z : Standing). IsToGo i z.layers z.locks z.own.status c.statements.result.now r.point.statement r.point.request) (sym there)
    (subst (λ sts. IsToGo i x.store (grant x.locks s) (member_at x i).state.status sts r.point.statement r.point.request) (sym c.statements.ensures.are) go)

pub trace_on-requires-clause-inside : goal.trace_on-requires-clause-inside
trace_on-requires-clause-inside c = subst (λ n. c.args.session < n) (sym (c.in_ok-tell.ensures.past ∙ c.in_ok-forget.ensures.past ∙ c.in_ok-grant.ensures.past))
    c.requires.inside

pub trace_on-requires-clause-below : goal.trace_on-requires-clause-below
trace_on-requires-clause-below c =
    let x = staged_of c.args.before in
    let i = c.args.session in
    let s = c.requires.next.0 in
    let next = c.requires.next.1 in
    let there : standing_at i (staged_of c.tell.new.self)
    ≡ standing x.store (grant x.locks s) (record { status = (member_at x i).state.status; transcript = Resumed ∷ [] }) =
    c.in_ok-tell.ensures.told ∙ ap (λ (z : Standing). told z Resumed) c.in_ok-forget.ensures.forgot
    ∙ ap (λ (z : Standing). told (forgot z) Resumed) (c.in_ok-grant.ensures.granted s next) in
    let count : length x.members ≡ c.sessions-count.result + 1 = omega (arith, c.sessions-count.ensures.count, c.requires.count) in
    subst (λ (z : Standing). IsBelow (c.sessions-count.result + 1) z.locks) (sym there)
    (subst (λ n. IsBelow n (grant x.locks s)) count (granted-below c.args.spec.now.run.steps x s c.requires.stage next))

pub returns : goal.returns
returns c = λ s next same.
    let steps = c.args.spec.now.run.steps in
    let x = staged_of c.args.before in
    let y = staged_of c.args.self.now in
    let i = c.args.session in
    let r = c.in-Some.rest in
    let sessions = c.args.spec.now.run.sessions in
    let count : c.sessions-count.result + 1 ≡ suc sessions = omega (arith, c.sessions-count.ensures.count) in
    let is : (member_at x i).rest ≡ Some r = sym c.rest.ensures ∙ c.in-Some.is in
    let here = standing x.store (grant x.locks s) (record { status = (member_at x i).state.status; transcript = Resumed ∷ [] }) in
    let there : standing_at i (staged_of c.tell.new.self) ≡ here =
    c.in_ok-tell.ensures.told ∙ ap (λ (z : Standing). told z Resumed) c.in_ok-forget.ensures.forgot
    ∙ ap (λ (z : Standing). told (forgot z) Resumed) (c.in_ok-grant.ensures.granted s next) in
    let events = c.in_ok-events.ensures ∙ (λ j. drop (length (c.log.ensures j)) (c.log-2.ensures j)) in
    let step = c.in_ok-step.ensures ∙ ap (last_sent None) c.log-3.ensures in
    resumed-so (suc sessions) steps x y s c.in_ok-moment.moment i r same is (record {
      trace = c.in_ok-trace.trace;
      traces = traces-at (c.sessions-count.result + 1) (suc sessions) i _ (had_of (wait_of x.locks i)) (standing_at i (staged_of c.tell.new.self)) here
          c.statements.result.now _ r.point r.point c.in_ok-trace.trace count c.in_ok-changes.ensures there c.statements.ensures.are refl
          c.in_ok-trace.ensures;
      is = told-is steps (c.sessions-count.result + 1) (suc sessions) x y i IsResumed _ c.in_ok-trace.trace _ _ _ c.in_ok-moment.moment count events
          c.in_ok-still.ensures c.in_ok-stale.ensures (c.in_ok-moment.ensures ∙ ap (λ k. record {
            session = i;
            manner = IsResumed;
            step = k;
            events = c.in_ok-events.events;
            changes = c.in_ok-trace.trace.changes;
            status = (member_at y i).state.status;
            ending = ending_by (want_of (c.sessions-count.result + 1) (look_in y.locks) y.locks.waits i) c.in_ok-trace.trace.refusal;
            still = c.in_ok-still.still;
            stale = c.in_ok-stale.stale;
          }) step);
    })
