use Rattle.std.proofs.lemmas.Result.{err_from_is_err_and}
use Rattle.std.proofs.Common.{◌≡◌, sym, ap, ◌∙◌, subst, suc, length, []}
use Rattle.std.specs.Result.{IfErr}
use Rattle.machine_model.specs.Start.{Started, main_setups, session_setups, start}
use Rattle.session_steps.specs.Refused.{IsRefusedBy}
use Rattle.session_steps.specs.Stage.{world_in, IsBlank, IsSettled}
use Rattle.session_steps.specs.SetUp.{IsReadyForSessions}
use Rattle.session_steps.proofs.Answered.{on_both, on_ok}
use Rattle.session_steps.proofs.SetUpLemmas.{any-steps, ready-for-mains, refused-mains, start-sessions, settled-first}
use Rattle.session_steps.proofs.setups.run_setups.Goals as goal

pub main_setups-requires-clause-ready : goal.main_setups-requires-clause-ready
main_setups-requires-clause-ready g c = ready-for-mains c.sessions-control.result (g.S.Stage.staged c.args.stage.now)
    (subst (λ n. IsBlank (suc n) (g.S.Stage.staged c.args.stage.now)) (sym c.sessions-control.ensures.count) c.requires.blank)

pub returns-in_err-main_setups-clause-refused : goal.returns-in_err-main_setups-clause-refused
returns-in_err-main_setups-clause-refused g c =
    let run = c.args.spec.now.run in
    let x = g.S.Stage.staged c.args.stage.now in
    let e = c.in_err-main_setups.field-0.0 in
    let p = err_from_is_err_and c.from_residual.result c.from_residual.ensures.1 in
    rw (p.1, p.2)
    (refused-mains run x e c.requires.blank (subst (λ bs. IsRefusedBy e (main_setups run.sessions 0 (world_in [] x) bs)) c.setups.ensures.are
    (subst (λ n. IsRefusedBy e (main_setups n 0 (world_in [] x) c.setups.result.now)) c.sessions-control.ensures.count
    c.in_err-main_setups.ensures.refused)))

pub returns-clause-started : goal.returns-clause-started
returns-clause-started g c =
    let run = c.args.spec.now.run in
    let x = g.S.Stage.staged c.args.stage.now in
    let y = g.S.Stage.staged c.main_setups.new.stage in
    let z = g.S.Stage.staged c.session_setups.new.stage in
    let own = c.session_setups-own.result.now in
    let mains : main_setups run.sessions 0 (world_in [] x) run.setups ≡ Started (world_in [] y) =
    (λ k. main_setups (sym c.sessions-control.ensures.count k) 0 (world_in [] x) (sym c.setups.ensures.are k)) ∙ c.in_ok-main_setups.ensures.ran in
    let begins : start run ≡ session_setups 0 (world_in [] y) own = start-sessions run x y c.requires.blank mains
    ∙ ap (session_setups 0 (world_in [] y)) (sym c.session_setups-own.ensures.are) in
    on_both c.session_setups.result (session_setups 0 (world_in [] y) own ≡ Started (world_in [] z)) (IsReadyForSessions (suc (length own)) z) (start run
    ≡ Started (world_in run.steps z)) c.session_setups.ensures.ran c.session_setups.ensures.ready
    (λ ran ready. begins ∙ ran ∙ ap Started (sym (any-steps run.steps z ready.stage)))

pub returns-clause-settled : goal.returns-clause-settled
returns-clause-settled g c =
    let run = c.args.spec.now.run in
    let z = g.S.Stage.staged c.session_setups.new.stage in
    let own = c.session_setups-own.result.now in
    on_ok c.session_setups.result (IsReadyForSessions (suc (length own)) z) (IsSettled run.sessions run.steps z) c.session_setups.ensures.ready (λ ready.
    settled-first run.sessions run.steps z (subst (λ n. IsReadyForSessions (suc n) z) c.session_setups-own.ensures.each ready))

pub returns-clause-refused : goal.returns-clause-refused
returns-clause-refused g c =
    let run = c.args.spec.now.run in
    let x = g.S.Stage.staged c.args.stage.now in
    let y = g.S.Stage.staged c.main_setups.new.stage in
    let own = c.session_setups-own.result.now in
    let mains : main_setups run.sessions 0 (world_in [] x) run.setups ≡ Started (world_in [] y) =
    (λ k. main_setups (sym c.sessions-control.ensures.count k) 0 (world_in [] x) (sym c.setups.ensures.are k)) ∙ c.in_ok-main_setups.ensures.ran in
    let begins : start run ≡ session_setups 0 (world_in [] y) own = start-sessions run x y c.requires.blank mains
    ∙ ap (session_setups 0 (world_in [] y)) (sym c.session_setups-own.ensures.are) in
    subst (λ s. IfErr c.session_setups.result (λ error. IsRefusedBy error s)) (sym begins) c.session_setups.ensures.refused
