use Rattle.std.proofs.Common.{◌≡◌, ◌+◌, ◌<◌, sym, ap, ◌∙◌, subst, suc, drop, length, [], Some, arith}
use Rattle.line_moments.specs.declared.moment.Manner.TheVariants.{IsSent}
use Rattle.lock_queues.specs.Laws.{IsBelow}
use Rattle.events.specs.declared.event.Event.TheVariants.{Sent}
use Rattle.session_machine.specs.SharedStage.{staged_of}
use Rattle.session_machine.specs.Telling.{sent_standing}
use Rattle.session_steps.specs.declared.point.Point.{Point}
use Rattle.session_steps.specs.Going.{Standing, IsToGo, told}
use Rattle.session_steps.specs.Stage.{statements_of, member_at, standing_at}
use Rattle.session_steps.proofs.Stages.{sent-to-go-now}
use Rattle.session_machine.proofs.Seeing.{traces-at, told-is}
use Rattle.session_machine.proofs.stage.SharedStage.sent_moment.Goals as goal

pub trace_on-requires-clause-ready : goal.trace_on-requires-clause-ready
trace_on-requires-clause-ready c =
    let steps = c.args.spec.now.run.steps in
    let x = staged_of c.args.before in
    let k = c.args.step in
    let i = c.args.session in
    let there : standing_at i (staged_of c.tell.new.self) ≡ sent_standing x i k =
    c.in_ok-tell.ensures.told ∙ ap (λ (z : Standing). told z (Sent k)) c.in_ok-forget.ensures.forgot in
    let go : IsToGo i x.store x.locks (member_at x i).state.status (statements_of steps k) 0 0 =
    sent-to-go-now steps x k i c.requires.stage c.requires.sender c.requires.inside c.requires.idle in
    subst (λ (p : Point). IsToGo i c.tell.new.self.store c.tell.new.self.locks (standing_at i (staged_of c.tell.new.self)).own.status c.statements.result.now p.statement p.request) (sym c.start.ensures)
    (subst (λ (z : Standing). IsToGo i z.layers z.locks z.own.status c.statements.result.now 0 0) (sym there)
    (subst (λ sts. IsToGo i x.store x.locks (member_at x i).state.status sts 0 0) (sym c.statements.ensures.are) go))

pub trace_on-requires-clause-inside : goal.trace_on-requires-clause-inside
trace_on-requires-clause-inside c = subst (λ n. c.args.session < n) (sym (c.in_ok-tell.ensures.past ∙ c.in_ok-forget.ensures.past)) c.requires.inside

pub trace_on-requires-clause-below : goal.trace_on-requires-clause-below
trace_on-requires-clause-below c =
    let x = staged_of c.args.before in
    let k = c.args.step in
    let i = c.args.session in
    let there : standing_at i (staged_of c.tell.new.self) ≡ sent_standing x i k =
    c.in_ok-tell.ensures.told ∙ ap (λ (z : Standing). told z (Sent k)) c.in_ok-forget.ensures.forgot in
    let count : length x.members ≡ c.sessions-count.result + 1 = omega (arith, c.sessions-count.ensures.count, c.requires.count) in
    subst (λ n. IsBelow n c.tell.new.self.locks) count
    (subst (λ (z : Standing). IsBelow (length x.members) z.locks) (sym there) c.requires.stage.within.below)

pub returns : goal.returns
returns c =
    let x = staged_of c.args.before in
    let y = staged_of c.args.self.now in
    let k = c.args.step in
    let i = c.args.session in
    let sessions = c.args.spec.now.run.sessions in
    let count : c.sessions-count.result + 1 ≡ suc sessions = omega (arith, c.sessions-count.ensures.count) in
    let there : standing_at i (staged_of c.tell.new.self) ≡ sent_standing x i k =
    c.in_ok-tell.ensures.told ∙ ap (λ (z : Standing). told z (Sent k)) c.in_ok-forget.ensures.forgot in
    let events = c.in_ok-events.ensures ∙ (λ j. drop (length (c.log.ensures j)) (c.log-2.ensures j)) in
    record {
      trace = c.in_ok-trace.trace;
      traces = traces-at (c.sessions-count.result + 1) (suc sessions) i _ [] (standing_at i (staged_of c.tell.new.self)) (sent_standing x i k)
          c.statements.result.now _ c.start.result (record { statement = 0; request = 0 }) c.in_ok-trace.trace count c.new.ensures there
          c.statements.ensures.are c.start.ensures c.in_ok-trace.ensures;
      is = told-is c.args.spec.now.run.steps (c.sessions-count.result + 1) (suc sessions) x y i IsSent (Some k) c.in_ok-trace.trace _ _ _ c.in_ok-moment.moment count events
          c.in_ok-still.ensures c.in_ok-stale.ensures c.in_ok-moment.ensures;
    }
