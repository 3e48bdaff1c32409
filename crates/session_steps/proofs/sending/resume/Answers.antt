use Rattle.std.proofs.lemmas.List.Elements.{All-get_or}
use Rattle.std.proofs.Common.{◌≡◌, sym, ap, ◌∙◌, subst, List, length, drop, set, get_or, is_some, Some, true, false}
use Rattle.lock_queues.specs.LockTable.{grant}
use Rattle.events.specs.declared.event.Event.TheVariants.{Resumed}
use Rattle.machine_model.specs.Session.{Task}
use Rattle.machine_model.specs.declared.status.Status.{Status}
use Rattle.session_steps.specs.Going.{Standing, tasks_from, IsToGo}
use Rattle.session_steps.specs.Stage.{Member, no_member, statements_of, member_at, RestIsOf, note_member, HasGone, HasResumed}
use Rattle.session_steps.proofs.Acted.{same-members}
use Rattle.session_steps.proofs.Answered.{on_ok}
use Rattle.session_steps.proofs.Stages.{Gone, rests, resumed-to-go, gone-told, told-status, has-resumed}
use Rattle.session_steps.proofs.sending.resume.Goals as goal

-- a session that waits has a rest
pub unreachable-requires : goal.unreachable-requires
unreachable-requires g c =
    let steps = c.args.spec.now.run.steps in
    let x = g.S.Stage.staged c.args.stage.now in
    let i = c.args.session in
    let next = c.requires.next.1 in
    let some : is_some (member_at x i).rest ≡ true = subst (λ i. is_some (member_at x i).rest
    ≡ true) c.requires.next.2 (rests steps x c.requires.next.0 c.requires.stage next) in
    let gr = g.S.Stage.staged c.grant.new.self in
    let same : gr.members ≡ x.members = same-members i x gr c.requires.inside
    (ap (λ (z : Standing). z.own) (c.in_ok-grant.ensures.granted c.requires.next.0 next)) c.in_ok-grant.ensures.others in
    let none : false ≡ true = ap is_some c.in_default.ensures ∙ ap (λ (ms : List Member). is_some (get_or ms i no_member).rest) same ∙ some in
    cc

pub go-requires-clause-known : goal.go-requires-clause-known
go-requires-clause-known g c =
    let steps = c.args.spec.now.run.steps in
    let x = g.S.Stage.staged c.args.stage.now in
    let i = c.args.session in
    let gr = g.S.Stage.staged c.grant.new.self in
    let same : gr.members ≡ x.members = same-members i x gr c.requires.inside
    (ap (λ (z : Standing). z.own) (c.in_ok-grant.ensures.granted c.requires.next.0 c.requires.next.1)) c.in_ok-grant.ensures.others in
    All-get_or (RestIsOf (length steps)) x.members i no_member c.requires.inside c.requires.stage.known c.in-Some.rest
    (ap (λ ms. (get_or ms i no_member).rest) (sym same) ∙ sym c.in-Some.ensures)

pub go-requires-clause-ready : goal.go-requires-clause-ready
go-requires-clause-ready g c =
    let steps = c.args.spec.now.run.steps in
    let x = g.S.Stage.staged c.args.stage.now in
    let i = c.args.session in
    let s = c.requires.next.0 in
    let next = c.requires.next.1 in
    let r = c.in-Some.rest in
    let gr = g.S.Stage.staged c.grant.new.self in
    let granted = c.in_ok-grant.ensures.granted s next in
    let same : gr.members ≡ x.members = same-members i x gr c.requires.inside (ap (λ (z : Standing). z.own) granted) c.in_ok-grant.ensures.others in
    let told = g.S.Stage.staged c.tell.new.stage in
    let is : (member_at x i).rest ≡ Some r = ap (λ ms. (get_or ms i no_member).rest) (sym same) ∙ sym c.in-Some.ensures in
    let go : IsToGo i x.store (grant x.locks s) (member_at x i).state.status (statements_of steps r.step) r.point.statement r.point.request =
    subst (λ j. (member_at x j).rest ≡ Some r → IsToGo j x.store (grant x.locks s) (member_at x j).state.status (statements_of steps r.step) r.point.statement r.point.request)
    c.requires.next.2 (resumed-to-go steps x s c.requires.stage next r) is in
    let status = told-status i x told Resumed c.requires.inside
    (c.in_ok-tell.ensures.told.members ∙ ap (λ ms. set ms i (note_member (get_or ms i no_member) Resumed)) same) in
    subst (λ b. IsToGo i told.store told.locks b (statements_of steps r.step) r.point.statement r.point.request) (sym status)
    (subst (λ t. IsToGo i told.store t (member_at x i).state.status (statements_of steps r.step) r.point.statement r.point.request)
    (sym (c.in_ok-tell.ensures.told.locks ∙ ap (λ (z : Standing). z.locks) granted))
    (subst (λ l. IsToGo i l (grant x.locks s) (member_at x i).state.status (statements_of steps r.step) r.point.statement r.point.request)
    (sym (c.in_ok-tell.ensures.told.store ∙ ap (λ (z : Standing). z.layers) granted)) go))

pub returns-clause-resumed : goal.returns-clause-resumed
returns-clause-resumed g c =
    let steps = c.args.spec.now.run.steps in
    let x = g.S.Stage.staged c.args.stage.now in
    let i = c.args.session in
    let s = c.requires.next.0 in
    let next = c.requires.next.1 in
    let r = c.in-Some.rest in
    let gr = g.S.Stage.staged c.grant.new.self in
    let granted = c.in_ok-grant.ensures.granted s next in
    let same : gr.members ≡ x.members = same-members i x gr c.requires.inside (ap (λ (z : Standing). z.own) granted) c.in_ok-grant.ensures.others in
    let told = g.S.Stage.staged c.tell.new.stage in
    let y = g.S.Stage.staged c.go.new.stage in
    let is : (member_at x i).rest ≡ Some r = ap (λ ms. (get_or ms i no_member).rest) (sym same) ∙ sym c.in-Some.ensures in
    let tasks_at : Status → List Task = λ b. tasks_from b (drop r.point.statement (statements_of steps r.step)) r.point.request in
    let members = c.in_ok-tell.ensures.told.members ∙ ap (λ ms. set ms i (note_member (get_or ms i no_member) Resumed)) same in
    let tasks = tasks_at (member_at x i).state.status in
    on_ok c.go.result (HasGone steps i (tasks_at (member_at told i).state.status) told y) (HasResumed steps x y) c.go.ensures.gone (λ went.
    let gone = subst (λ b. HasGone steps i (tasks_at b) told y) (told-status i x told Resumed c.requires.inside members) went in
    let whole = gone-told steps i tasks x told y (grant x.locks s) Resumed c.requires.inside
    (c.in_ok-tell.ensures.told.store ∙ ap (λ (z : Standing). z.layers) granted)
    (c.in_ok-tell.ensures.told.locks ∙ ap (λ (z : Standing). z.locks) granted)
    members gone in
    subst (λ j. (member_at x j).rest ≡ Some r → Gone steps j (tasks_at (member_at x j).state.status) x (grant x.locks s) Resumed y
    → HasResumed steps x y) c.requires.next.2 (λ e went. has-resumed steps x s c.requires.stage next r e y went) is whole)
