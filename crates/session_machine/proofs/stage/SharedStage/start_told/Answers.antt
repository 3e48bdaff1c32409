use Rattle.std.proofs.Common.{◌++◌, ap, ◌∙◌, ◌∷◌, [], suc, Some, subst, ◌<◌, drop}
use Rattle.line_moments.specs.declared.moment.Manner.TheVariants.{IsSent}
use Rattle.session_machine.specs.SharedStage.{staged_of}
use Rattle.session_machine.specs.Telling.{IsTold, sent_standing}
use Rattle.session_steps.specs.Going.{tasks_from}
use Rattle.session_steps.specs.Stage.{Staged, member_at, statements_of}
use Rattle.session_machine.proofs.WorldMoments.{sent-is}
use Rattle.session_machine.proofs.stage.SharedStage.start_told.Goals as goal

pub returns-clause-told : goal.returns-clause-told
returns-clause-told c =
    let steps = c.args.spec.now.run.steps in
    let n = suc c.args.spec.now.run.sessions in
    let x = staged_of c.args.self.now in
    let y = staged_of c.start_step.new.stage in
    let k = c.args.step in
    let i = c.args.session in
    let started = c.in_ok-start_step.ensures.started in
    let told = subst (λ (z : Staged). IsTold steps n z y i IsSent (Some k) [] (sent_standing z i k) (tasks_from (member_at z i).state.status (drop 0 (statements_of steps k)) 0) c.in_ok-moment.moment)
    c.in_ok-before.ensures c.in_ok-moment.ensures in
    let is = sent-is steps n x y c.requires.stage started.stage c.requires.count (started.count ∙ c.requires.count) k i
    (subst (λ m. i < m) c.requires.count c.requires.inside) c.requires.sender c.requires.idle started c.in_ok-moment.moment told in
    c.in_ok-push.ensures.ok ∙ ap (λ m. c.args.told.now ++ m ∷ []) is
