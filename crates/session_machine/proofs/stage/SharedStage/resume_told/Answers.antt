use Rattle.std.proofs.Common.{◌++◌, ap, ◌∙◌, ◌∷◌, [], suc, subst}
use Rattle.lock_queues.specs.Rules.{IsNext}
use Rattle.session_machine.specs.SharedStage.{staged_of}
use Rattle.session_machine.specs.Telling.{IsResumedSo}
use Rattle.session_steps.specs.Stage.{Staged}
use Rattle.session_machine.proofs.WorldMoments.{resumed-is}
use Rattle.session_machine.proofs.stage.SharedStage.resume_told.Goals as goal

pub returns-clause-told : goal.returns-clause-told
returns-clause-told c = λ s next here.
    let steps = c.args.spec.now.run.steps in
    let n = suc c.args.spec.now.run.sessions in
    let x = staged_of c.args.self.now in
    let b = staged_of c.in_ok-before.before in
    let y = staged_of c.resume.new.stage in
    let same = c.in_ok-before.ensures in
    let resumed = c.in_ok-resume.ensures.resumed in
    let told = subst (λ (z : Staged). IsNext z.locks s → IsResumedSo n steps z y s c.in_ok-moment.moment) same
    (λ its. c.in_ok-moment.ensures s its here) next in
    let is = resumed-is steps n x y c.requires.stage resumed.stage c.requires.count (resumed.count ∙ c.requires.count) s next c.known.ensures.distinct
    (resumed.grants s next) c.in_ok-moment.moment told in
    c.in_ok-push.ensures.ok ∙ ap (λ m. c.args.told.now ++ m ∷ []) is
