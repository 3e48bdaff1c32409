use Rattle.std.proofs.Common.{sym, subst, drop}
use Rattle.events.specs.declared.event.Event.TheVariants.{Sent}
use Rattle.session_steps.specs.declared.point.Point.{Point}
use Rattle.session_steps.specs.Going.{tasks_from, IsToGo}
use Rattle.session_steps.specs.Stage.{statements_of, member_at, HasGone, HasStarted}
use Rattle.session_steps.proofs.Answered.{on_ok}
use Rattle.session_steps.proofs.Stages.{gone-told, told-status, sent-to-go-now, has-started}
use Rattle.session_steps.proofs.sending.start_step.Goals as goal

pub go-requires-clause-ready : goal.go-requires-clause-ready
go-requires-clause-ready g c =
    let steps = c.args.spec.now.run.steps in
    let x = g.S.Stage.staged c.args.stage.now in
    let k = c.args.step in
    let i = c.args.session in
    let told = g.S.Stage.staged c.tell.new.stage in
    let go : IsToGo i x.store x.locks (member_at x i).state.status (statements_of steps k) 0 0 =
    sent-to-go-now steps x k i c.requires.stage c.requires.sender c.requires.inside c.requires.idle in
    let status = told-status i x told (Sent k) c.requires.inside c.in_ok-tell.ensures.told.members in
    subst (λ (p : Point). IsToGo i told.store told.locks (member_at told i).state.status (statements_of steps k) p.statement p.request)
    (sym c.start.ensures)
    (subst (λ b. IsToGo i told.store told.locks b (statements_of steps k) 0 0) (sym status)
    (subst (λ t. IsToGo i told.store t (member_at x i).state.status (statements_of steps k) 0 0) (sym c.in_ok-tell.ensures.told.locks)
    (subst (λ l. IsToGo i l x.locks (member_at x i).state.status (statements_of steps k) 0 0) (sym c.in_ok-tell.ensures.told.store) go)))

pub returns-clause-started : goal.returns-clause-started
returns-clause-started g c =
    let steps = c.args.spec.now.run.steps in
    let x = g.S.Stage.staged c.args.stage.now in
    let k = c.args.step in
    let i = c.args.session in
    let told = g.S.Stage.staged c.tell.new.stage in
    let y = g.S.Stage.staged c.go.new.stage in
    let b = (member_at x i).state.status in
    on_ok c.go.result (HasGone steps i (tasks_from (member_at told i).state.status (drop c.start.result.statement (statements_of steps k)) c.start.result.request) told y)
    (HasStarted steps k x y) c.go.ensures.gone (λ gone.
    let went : HasGone steps i (tasks_from b (drop 0 (statements_of steps k)) 0) told y =
    subst (λ c. HasGone steps i (tasks_from c (drop 0 (statements_of steps k)) 0) told y)
    (told-status i x told (Sent k) c.requires.inside c.in_ok-tell.ensures.told.members)
    (subst (λ (p : Point). HasGone steps i (tasks_from (member_at told i).state.status (drop p.statement (statements_of steps k)) p.request) told y)
    c.start.ensures gone) in
    has-started steps x k i c.requires.stage c.requires.sender c.requires.inside c.requires.idle y
    (gone-told steps i (tasks_from b (drop 0 (statements_of steps k)) 0) x told y x.locks (Sent k) c.requires.inside c.in_ok-tell.ensures.told.store
    c.in_ok-tell.ensures.told.locks c.in_ok-tell.ensures.told.members went))
