use Rattle.std.proofs.Common.{◌≡◌, ◌+◌, suc, sym, ap, ◌∙◌, subst, length, drop, [], ◌∷◌, drop-cons, add-one, ⊎_elim, arith}
use Rattle.session_steps.specs.declared.setups.SetUp.TheVariants.{Open, Closed}
use Rattle.machine_model.specs.Start.{session_setups}
use Rattle.session_steps.specs.Stage.{world_in}
use Rattle.session_steps.specs.SetUp.{IsSetUp, HasEnded}
use Rattle.session_steps.proofs.SetUpLemmas.{session-goes, session-ready}
use Rattle.session_steps.proofs.setups.session_setups.Goals as goal

-- the setup is done, and the next one follows
pub loop-number-preserved : goal.loop-number-preserved
loop-number-preserved g c =
    let blocks = c.args.blocks.now in
    let i = c.loop-number.number in
    let x = g.S.Stage.staged c.loop-number.stage in
    let y = g.S.Stage.staged c.set_up.new.stage in
    let block = c.index-blocks-number.result in
    let here : drop i blocks ≡ block ∷ drop (i + 1) blocks = drop-cons blocks i block c.loop-number-test.true
    ∙ (λ j. sym c.index-blocks-number.is j ∷ drop (sym (add-one i) j) blocks) in
    let set-up : IsSetUp i block x y = ⊎_elim
    (λ e. let closed : HasEnded Closed i block x y = subst (λ e. HasEnded e i block x y) e c.in_ok-set_up.ensures.ended in closed.0)
    (λ e. let open' : HasEnded Open i block x y = subst (λ e. HasEnded e i block x y) e c.in_ok-set_up.ensures.ended in open'.0) c.in-Closed.is in
    record {
      ready = session-ready (suc (length blocks)) i x y block (omega (arith, c.loop-number-test.true)) c.loop-number.invariant.ready set-up;
      ran = c.loop-number.invariant.ran ∙ ap (session_setups i (world_in [] x)) here
          ∙ session-goes i (world_in [] x) block (drop (i + 1) blocks) set-up.whole set-up.idle
          ∙ (λ j. session_setups (sym (add-one i) j) (sym set-up.world j) (drop (i + 1) blocks));
      past = c.in_ok-set_up.ensures.past ∙ c.loop-number.invariant.past;
    }
