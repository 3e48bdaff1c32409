use Rattle.std.proofs.Common.{◌≡◌, ◌+◌, sym, ap, ◌∙◌, subst, false, true, [], ◌∷◌, drop, drop-cons, add-one}
use Rattle.machine_model.specs.Start.{main_setups}
use Rattle.session_steps.specs.Stage.{world_in}
use Rattle.session_steps.specs.SetUp.{HasEnded}
use Rattle.session_steps.proofs.SetUpLemmas.{main-idle, main-goes, main-ready}
use Rattle.session_steps.proofs.setups.main_setups.Goals as goal

-- nobody else holds a lock, so the control session does not wait
pub unreachable-requires : goal.unreachable-requires
unreachable-requires g c =
    let x = g.S.Stage.staged c.loop-number.stage in
    let block = c.index-blocks-number.result in
    let waits = subst (λ e. HasEnded e c.args.control block x (g.S.Stage.staged c.set_up.new.stage)) c.in-Waits.is c.in_ok-set_up.ensures.ended in
    let no : true ≡ false = sym waits.1 ∙ main-idle c.args.control x block c.loop-number.invariant.ready in
    cc

-- the setup is done, and the next one follows
pub loop-number-preserved : goal.loop-number-preserved
loop-number-preserved g c =
    let control = c.args.control in
    let blocks = c.args.blocks.now in
    let n = c.loop-number.number in
    let x = g.S.Stage.staged c.loop-number.stage in
    let y = g.S.Stage.staged c.set_up.new.stage in
    let block = c.index-blocks-number.result in
    let here : drop n blocks ≡ block ∷ drop (n + 1) blocks = drop-cons blocks n block c.loop-number-test.true
    ∙ (λ j. sym c.index-blocks-number.is j ∷ drop (sym (add-one n) j) blocks) in
    let closed = subst (λ e. HasEnded e control block x y) c.in-Closed.is c.in_ok-set_up.ensures.ended in
    record {
      ready = main-ready control x y block c.loop-number.invariant.ready closed.0;
      ran = c.loop-number.invariant.ran ∙ ap (main_setups control n (world_in [] x)) here
          ∙ main-goes control n (world_in [] x) block (drop (n + 1) blocks) closed.0.whole closed.1
          ∙ (λ j. main_setups control (sym (add-one n) j) (sym closed.0.world j) (drop (n + 1) blocks));
      past = c.in_ok-set_up.ensures.past ∙ c.loop-number.invariant.past;
    }
