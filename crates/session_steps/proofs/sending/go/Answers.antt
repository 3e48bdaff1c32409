use Rattle.std.proofs.Common.{◌≡◌, ap, ◌∙◌, subst, drop}
use Rattle.session_steps.specs.Going.{tasks_from, GoesUntil}
use Rattle.session_steps.specs.Stage.{statements_of, member_at, standing_at, with_rest, HasGone}
use Rattle.session_steps.proofs.Acted.{gone-there}
use Rattle.session_steps.proofs.Answered.{on_ok}
use Rattle.session_steps.proofs.sending.go.Goals as goal

pub returns-clause-gone : goal.returns-clause-gone
returns-clause-gone g c =
    let steps = c.args.spec.now.run.steps in
    let i = c.args.session in
    let from = c.args.from in
    let x = g.S.Stage.staged c.args.stage.now in
    let z = g.S.Stage.staged c.go_on.new.stage in
    let y = g.S.Stage.staged c.set_rest.new.self in
    on_ok c.set_rest.result (y ≡ with_rest i c.rest_at.result z)
    (HasGone steps i (tasks_from (member_at x i).state.status (drop from.statement (statements_of steps c.args.step)) from.request) x y) c.set_rest.ensures.left (λ left.
    gone-there steps i c.args.step from x z y c.in_ok-stopped.stopped c.requires.inside c.requires.known c.in_ok-stopped.ensures.others
    (subst (λ sts. GoesUntil i (standing_at i x) sts from z.store z.locks (member_at z i).state c.in_ok-stopped.stopped) c.statements-statements.ensures.are
    c.in_ok-stopped.ensures.goes) c.in_ok-stopped.ensures.waits (left ∙ ap (λ r. with_rest i r z) c.rest_at.ensures))
