use Rattle.std.proofs.Common.{◌≡◌, ◌<◌, ◌⊎◌, ⊎_elim, sym, ap, ◌∙◌, length, arith}
use Rattle.lock_queues.proofs.WaitLists.{wait-map}
use Rattle.bound_specs.specs.Spec.{SpecFile}
use Rattle.machine_model.specs.Sound.{Ready}
use Rattle.plan_pairs.specs.Pairs.{asked_at}
use Rattle.marked_quiet.specs.Waiting.{clear_of, wait_of}
use Rattle.marked_quiet.proofs.WaitLemmas.{disturbed, nobody-disturbs}
use Rattle.marked_quiet.proofs.waiting.undisturbed.Goals as goal

pub loop-other-preserved : goal.loop-other-preserved
loop-other-preserved c = λ k lt.
    let w = c.args.world.now.world in
    let qs = asked_at c.args.world.now.file.run c.args.step in
    let cases : (k < c.loop-other.other) ⊎ (k ≡ c.loop-other.other) = grind arith in
    ⊎_elim (λ below. c.loop-other.invariant k below)
    (λ last. ap (λ n. clear_of w c.args.session qs (wait_of w n)) last ∙ sym c.is_clear.ensures ∙ c.if-not-is_clear.false) cases

pub returns-then-not-is_clear : goal.returns-then-not-is_clear
returns-then-not-is_clear c =
    let qs = asked_at c.args.world.now.file.run c.args.step in
    disturbed c.args.world.now.world c.args.session qs c.loop-other.other (sym c.is_clear.ensures ∙ c.if-not-is_clear.true)

pub returns : goal.returns
returns c =
    let r = c.args.world.now in
    let w = r.world in
    let known = c.known.ensures.now c.requires.whole in
    let steady = known.sound.steady in
    let sessions = ap (λ (f : SpecFile). f.run.sessions) c.spec.ensures in
    let each = wait-map (Ready w) (λ v. v.session < length w.sessions) (λ v ready. ready.known) w.waits steady.ready in
    nobody-disturbs w c.args.session (asked_at r.file.run c.args.step) (length w.sessions) each steady.distinct
    (λ k lt. c.loop-other.invariant k (omega (arith, lt, c.loop-other-test.false, c.sessions-other-end.ensures.count, sessions, known.sessions)))
