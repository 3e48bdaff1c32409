use Rattle.std.proofs.Common.{sym, ◌∙◌, subst, ◌<◌, length}
use Rattle.session_steps.proofs.Stages.{session-known}
use Rattle.session_steps.proofs.Standing.{settled-now}
use Rattle.session_steps.proofs.sending.settle.Goals as goal

-- who waits is a session of the world
pub resume-requires-clause-inside : goal.resume-requires-clause-inside
resume-requires-clause-inside g c =
    let next = c.in-Some.ensures in
    let x = g.S.Stage.staged c.ripe.stage in
    subst (λ i. i < length x.members) next.2 (session-known c.args.spec.now.run.steps x next.0 c.ripe.invariant.stage next.1)

-- nothing is ripe
pub returns-clause-settled : goal.returns-clause-settled
returns-clause-settled g c = sym (c.ripe.invariant.settles
    ∙ settled-now c.args.spec.now.run.steps (g.S.Stage.staged c.ripe.stage) c.ripe.invariant.stage c.in_default.ensures)
