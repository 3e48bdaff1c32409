use Rattle.std.proofs.Common.{◌≡◌, ◌++◌, sym, ap, ◌∙◌, subst, suc, ◌<◌, false, true, [], ◌∷◌, length, get_or, arith, length-set, append_assoc}
use Rattle.lock_queues.specs.Locks.{waits_now}
use Rattle.events.specs.declared.event.Event.TheVariants.{NotSent}
use Rattle.bound_specs.specs.Spec.{no_step}
use Rattle.line_moments.specs.Moments.{Sends}
use Rattle.machine_model.specs.World.{send, settle}
use Rattle.machine_model.specs.Sound.{Steady}
use Rattle.session_steps.specs.Stage.{world_in, member_at, note_member, IsStage, IsSettled, HasTold}
use Rattle.session_machine.specs.SharedStage.{staged_of}
use Rattle.session_machine.specs.Telling.{moment_in, settling}
use Rattle.session_steps.proofs.Answered.{on_ok, on_all}
use Rattle.session_steps.proofs.Stages.{not-sent-now, not-sent-stage, sent-settles}
use Rattle.session_steps.proofs.Standing.{sound-after, settled-after}
use Rattle.session_machine.proofs.WorldMoments.{moments-skip, moments-send}
use Rattle.session_machine.proofs.stage.SharedStage.send_told.Goals as goal

-- a session that waits is not sent it
pub returns-then-waits-clause-sent : goal.returns-then-waits-clause-sent
returns-then-waits-clause-sent c =
    let steps = c.args.spec.now.run.steps in
    let x = staged_of c.args.self.now in
    let k = c.args.step in
    let i = c.session_of-session.result in
    let stage = c.requires.settled.stage in
    let is = c.session_of-session.ensures.is in
    let lt : i < length x.members = omega (arith, c.session_of-session.ensures.known, c.requires.settled.count) in
    let y = staged_of c.skip_told.new.self in
    on_ok c.skip_told.result (HasTold i (NotSent k) x y) (world_in steps y ≡ send steps (world_in steps x) k) c.skip_told.ensures.kept
    (λ told. not-sent-now steps x k i stage is lt y told (sym c.if-waits.ensures))

pub returns-then-waits-clause-settled : goal.returns-then-waits-clause-settled
returns-then-waits-clause-settled c =
    let steps = c.args.spec.now.run.steps in
    let x = staged_of c.args.self.now in
    let k = c.args.step in
    let i = c.session_of-session.result in
    let stage = c.requires.settled.stage in
    let is = c.session_of-session.ensures.is in
    let lt : i < length x.members = omega (arith, c.session_of-session.ensures.known, c.requires.settled.count) in
    let sessions = c.args.spec.now.run.sessions in
    let known : (get_or steps k no_step).session < suc sessions = omega (arith, is, c.session_of-session.ensures.known) in
    let y = staged_of c.skip_told.new.self in
    on_ok c.skip_told.result (HasTold i (NotSent k) x y) (IsSettled sessions steps y) c.skip_told.ensures.kept (λ told.
    let sent = not-sent-now steps x k i stage is lt y told (sym c.if-waits.ensures) in
    settled-after sessions steps x y k c.requires.settled c.requires.known known sent
    (not-sent-stage steps x k i stage is lt y told (subst Steady (sym sent) (sound-after sessions steps x k c.requires.settled known).steady))
    (ap length told.members ∙ length-set x.members i (note_member (member_at x i) (NotSent k))))

pub returns-then-waits-clause-told : goal.returns-then-waits-clause-told
returns-then-waits-clause-told c =
    let steps = c.args.spec.now.run.steps in
    let x = staged_of c.args.self.now in
    let k = c.args.step in
    let waits : waits_now x.locks.waits (get_or steps k no_step).session ≡ true =
    subst (λ i. waits_now x.locks.waits i ≡ true) c.session_of-session.ensures.is (sym c.if-waits.ensures) in
    on_ok c.skip_told.result _ _ c.skip_told.ensures.told (λ told. told ∙ ap (λ ms. c.args.told.now ++ ms) (sym (moments-skip steps x k waits)))

-- another goes, and the world settles
pub returns-clause-sent : goal.returns-clause-sent
returns-clause-sent c =
    let steps = c.args.spec.now.run.steps in
    let x = staged_of c.args.self.now in
    let k = c.args.step in
    let y = staged_of c.start_told.new.self in
    let z = staged_of c.settle_told.new.self in
    let idle : waits_now x.locks.waits (get_or steps k no_step).session ≡ false =
    subst (λ i. waits_now x.locks.waits i ≡ false) c.session_of-session.ensures.is (sym c.if-waits.ensures) in
    on_ok c.settle_told.result (world_in steps z ≡ settle (world_in steps y)) (world_in steps z
    ≡ send steps (world_in steps x) k) c.settle_told.ensures.settled (λ settled. settled ∙ ap settle c.in_ok-start_told.ensures.started.world
    ∙ sym (sent-settles steps (world_in steps x) k idle))

pub returns-clause-settled : goal.returns-clause-settled
returns-clause-settled c =
    let steps = c.args.spec.now.run.steps in
    let x = staged_of c.args.self.now in
    let k = c.args.step in
    let sessions = c.args.spec.now.run.sessions in
    let known : (get_or steps k no_step).session < suc sessions = omega (arith, c.session_of-session.ensures.is, c.session_of-session.ensures.known) in
    let idle : waits_now x.locks.waits (get_or steps k no_step).session ≡ false =
    subst (λ i. waits_now x.locks.waits i ≡ false) c.session_of-session.ensures.is (sym c.if-waits.ensures) in
    let y = staged_of c.start_told.new.self in
    let z = staged_of c.settle_told.new.self in
    on_all c.settle_told.result (world_in steps z ≡ settle (world_in steps y)) (IsStage steps z) (length z.members
    ≡ length y.members) (IsSettled sessions steps z) c.settle_told.ensures.settled c.settle_told.ensures.stage c.settle_told.ensures.count (λ settled
    stands count.
    settled-after sessions steps x z k c.requires.settled c.requires.known known (settled ∙ ap settle c.in_ok-start_told.ensures.started.world
    ∙ sym (sent-settles steps (world_in steps x) k idle)) stands
    (count ∙ c.in_ok-start_told.ensures.started.count))

pub returns-clause-told : goal.returns-clause-told
returns-clause-told c =
    let steps = c.args.spec.now.run.steps in
    let x = staged_of c.args.self.now in
    let k = c.args.step in
    let y = staged_of c.start_told.new.self in
    let before = c.args.told.now in
    let first = moment_in steps x (Sends k) in
    let idle : waits_now x.locks.waits (get_or steps k no_step).session ≡ false =
    subst (λ i. waits_now x.locks.waits i ≡ false) c.session_of-session.ensures.is (sym c.if-waits.ensures) in
    on_ok c.settle_told.result _ _ c.settle_told.ensures.told (λ told. told
    ∙ (λ j. c.in_ok-start_told.ensures.told j ++ settling steps (c.in_ok-start_told.ensures.started.world j))
    ∙ append_assoc before (first ∷ []) _ ∙ ap (λ ms. before ++ ms) (sym (moments-send steps x k idle)))
