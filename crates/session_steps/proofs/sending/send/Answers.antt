use Rattle.std.proofs.Common.{◌≡◌, sym, ap, ◌∙◌, subst, suc, ◌<◌, false, length, get_or, arith, length-set}
use Rattle.lock_queues.specs.Locks.{waits_now}
use Rattle.events.specs.declared.event.Event.TheVariants.{NotSent}
use Rattle.bound_specs.specs.Spec.{no_step}
use Rattle.machine_model.specs.World.{send, settle}
use Rattle.machine_model.specs.Sound.{Steady}
use Rattle.session_steps.specs.Stage.{world_in, member_at, note_member, IsStage, IsSettled, HasTold}
use Rattle.session_steps.proofs.Answered.{on_ok, on_all}
use Rattle.session_steps.proofs.Stages.{not-sent-now, not-sent-stage, sent-settles}
use Rattle.session_steps.proofs.Standing.{sound-after, settled-after}
use Rattle.session_steps.proofs.sending.send.Goals as goal

-- a session that waits is not sent it
pub returns-then-waits-clause-sent : goal.returns-then-waits-clause-sent
returns-then-waits-clause-sent g c =
    let steps = c.args.spec.now.run.steps in
    let x = g.S.Stage.staged c.args.stage.now in
    let y = g.S.Stage.staged c.tell.new.stage in
    let k = c.args.step in
    let i = c.session_of-session.result in
    let stage = c.requires.settled.stage in
    let is = c.session_of-session.ensures.is in
    let lt : i < length x.members = omega (arith, c.session_of-session.ensures.known, c.requires.settled.count) in
    on_ok c.tell.result (HasTold i (NotSent k) x y) (world_in steps y
    ≡ send steps (world_in steps x) k) c.tell.ensures.told (λ told. not-sent-now steps x k i stage is lt y told (sym c.if-waits.ensures))

pub returns-then-waits-clause-settled : goal.returns-then-waits-clause-settled
returns-then-waits-clause-settled g c =
    let steps = c.args.spec.now.run.steps in
    let x = g.S.Stage.staged c.args.stage.now in
    let y = g.S.Stage.staged c.tell.new.stage in
    let k = c.args.step in
    let i = c.session_of-session.result in
    let stage = c.requires.settled.stage in
    let is = c.session_of-session.ensures.is in
    let lt : i < length x.members = omega (arith, c.session_of-session.ensures.known, c.requires.settled.count) in
    let sessions = c.args.spec.now.run.sessions in
    let known : (get_or steps k no_step).session < suc sessions = omega (arith, is, c.session_of-session.ensures.known) in
    on_ok c.tell.result (HasTold i (NotSent k) x y) (IsSettled sessions steps y) c.tell.ensures.told (λ told.
    let sent = not-sent-now steps x k i stage is lt y told (sym c.if-waits.ensures) in
    settled-after sessions steps x y k c.requires.settled c.requires.known known sent
    (not-sent-stage steps x k i stage is lt y told (subst Steady (sym sent) (sound-after sessions steps x k c.requires.settled known).steady))
    (ap length told.members ∙ length-set x.members i (note_member (member_at x i) (NotSent k))))

-- another goes, and the world settles
pub returns-clause-sent : goal.returns-clause-sent
returns-clause-sent g c =
    let steps = c.args.spec.now.run.steps in
    let x = g.S.Stage.staged c.args.stage.now in
    let k = c.args.step in
    let y = g.S.Stage.staged c.start_step.new.stage in
    let z = g.S.Stage.staged c.settle.new.stage in
    let idle : waits_now x.locks.waits (get_or steps k no_step).session ≡ false =
    subst (λ i. waits_now x.locks.waits i ≡ false) c.session_of-session.ensures.is (sym c.if-waits.ensures) in
    on_ok c.settle.result (world_in steps z ≡ settle (world_in steps y)) (world_in steps z
    ≡ send steps (world_in steps x) k) c.settle.ensures.settled (λ settled. settled ∙ ap settle c.in_ok-start_step.ensures.started.world
    ∙ sym (sent-settles steps (world_in steps x) k idle))

pub returns-clause-settled : goal.returns-clause-settled
returns-clause-settled g c =
    let steps = c.args.spec.now.run.steps in
    let x = g.S.Stage.staged c.args.stage.now in
    let k = c.args.step in
    let sessions = c.args.spec.now.run.sessions in
    let known : (get_or steps k no_step).session < suc sessions = omega (arith, c.session_of-session.ensures.is, c.session_of-session.ensures.known) in
    let idle : waits_now x.locks.waits (get_or steps k no_step).session ≡ false =
    subst (λ i. waits_now x.locks.waits i ≡ false) c.session_of-session.ensures.is (sym c.if-waits.ensures) in
    let y = g.S.Stage.staged c.start_step.new.stage in
    let z = g.S.Stage.staged c.settle.new.stage in
    on_all c.settle.result (world_in steps z ≡ settle (world_in steps y)) (IsStage steps z) (length z.members
    ≡ length y.members) (IsSettled sessions steps z) c.settle.ensures.settled c.settle.ensures.stage c.settle.ensures.count (λ settled stands count.
    settled-after sessions steps x z k c.requires.settled c.requires.known known (settled ∙ ap settle c.in_ok-start_step.ensures.started.world
    ∙ sym (sent-settles steps (world_in steps x) k idle)) stands
    (count ∙ c.in_ok-start_step.ensures.started.count))
