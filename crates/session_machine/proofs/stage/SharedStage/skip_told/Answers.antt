use Rattle.std.proofs.Common.{◌≡◌, ◌++◌, sym, ap, ◌∙◌, ◌∷◌, [], length, suc, subst, ◌<◌, Some, length-set}
use Rattle.line_moments.specs.declared.moment.Manner.TheVariants.{IsNotSent}
use Rattle.events.specs.declared.event.Event.TheVariants.{NotSent}
use Rattle.machine_model.specs.Sound.{Steady}
use Rattle.machine_model.specs.World.{send}
use Rattle.session_machine.specs.SharedStage.{staged_of}
use Rattle.session_machine.specs.Telling.{moment_told, no_trace}
use Rattle.session_steps.specs.Stage.{Staged, world_in, member_at, note_member, HasTold}
use Rattle.session_steps.proofs.Acted.{told-there}
use Rattle.session_steps.proofs.Stages.{not-sent-now, not-sent-stage}
use Rattle.session_steps.proofs.Standing.{sound-after}
use Rattle.session_machine.proofs.WorldMoments.{skipped-is}
use Rattle.session_machine.proofs.stage.SharedStage.skip_told.Goals as goal

pub skipped_moment-requires-clause-told : goal.skipped_moment-requires-clause-told
skipped_moment-requires-clause-told c =
    let x = staged_of c.args.self.now in
    let y = staged_of c.tell.new.self in
    let i = c.args.session in
    let e = NotSent c.args.step in
    subst (λ (z : Staged). HasTold i e z y) (sym c.in_ok-before.ensures)
    (told-there i e x y c.requires.inside c.in_ok-tell.ensures.told c.in_ok-tell.ensures.others)

pub returns-clause-kept : goal.returns-clause-kept
returns-clause-kept c =
    told-there c.args.session (NotSent c.args.step) (staged_of c.args.self.now) (staged_of c.tell.new.self) c.requires.inside c.in_ok-tell.ensures.told
    c.in_ok-tell.ensures.others

pub returns-clause-told : goal.returns-clause-told
returns-clause-told c =
    let steps = c.args.spec.now.run.steps in
    let sessions = c.args.spec.now.run.sessions in
    let n = suc sessions in
    let x = staged_of c.args.self.now in
    let y = staged_of c.tell.new.self in
    let k = c.args.step in
    let i = c.args.session in
    let told = told-there i (NotSent k) x y c.requires.inside c.in_ok-tell.ensures.told c.in_ok-tell.ensures.others in
    let settled = c.requires.settled in
    let lt : i < n = subst (λ m. i < m) settled.count c.requires.inside in
    let sent : world_in steps y ≡ send steps (world_in steps x) k =
    not-sent-now steps x k i settled.stage c.requires.sender c.requires.inside y told c.requires.waits in
    let steady = subst Steady (sym sent) (sound-after sessions steps x k settled (subst (λ j. j < n) c.requires.sender lt)).steady in
    let cy : length y.members ≡ n = ap length told.members ∙ length-set x.members i (note_member (member_at x i) (NotSent k)) ∙ settled.count in
    let is = skipped-is steps n x y k i settled.stage
    (not-sent-stage steps x k i settled.stage c.requires.sender c.requires.inside y told steady) settled.count cy lt c.requires.sender told sent
    c.requires.waits in
    c.in_ok-push.ensures.ok
    ∙ ap (λ m. c.args.told.now ++ m ∷ [])
    (c.in_ok-moment.ensures ∙ ap (λ (z : Staged). moment_told steps n z y i IsNotSent (Some k) no_trace) c.in_ok-before.ensures ∙ is)
