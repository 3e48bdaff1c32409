use Rattle.std.proofs.Common.{◌≡◌, sym, ap, ◌∙◌, subst, set, []}
use Rattle.session_steps.specs.declared.point.Point.{Point}
use Rattle.session_steps.specs.Going.{IsToGo, GoesUntil}
use Rattle.session_steps.specs.Stage.{member_at, standing_at}
use Rattle.session_steps.specs.SetUp.{HasEnded}
use Rattle.session_steps.proofs.Acted.{others-rest, others-set}
use Rattle.session_steps.proofs.SetUpLemmas.{set-up-to-go, ended}
use Rattle.session_steps.proofs.setups.set_up.Goals as goal

pub go_on-requires-clause-ready : goal.go_on-requires-clause-ready
go_on-requires-clause-ready g c =
    let x = g.S.Stage.staged c.args.stage.now in
    let i = c.args.session in
    subst (λ b. IsToGo i x.store x.locks (member_at x i).state.status b c.start.result.statement c.start.result.request) (sym c.statements.ensures)
    (subst (λ (p : Point). IsToGo i x.store x.locks (member_at x i).state.status c.args.block.now p.statement p.request) (sym c.start.ensures)
    (set-up-to-go x i c.args.block.now c.requires.stage c.requires.inside))

pub returns-clause-ended : goal.returns-clause-ended
returns-clause-ended g c =
    let i = c.args.session in
    let block = c.args.block.now in
    let x = g.S.Stage.staged c.args.stage.now in
    let z = g.S.Stage.staged c.go_on.new.stage in
    let y = g.S.Stage.staged c.forget.new.self in
    let s = (member_at z i).state in
    let stopped = c.in_ok-stopped.stopped in
    let goes : GoesUntil i (standing_at i x) block (record { statement = 0; request = 0 }) z.store z.locks s stopped =
    subst (λ b. GoesUntil i (standing_at i x) b (record { statement = 0; request = 0 }) z.store z.locks s stopped) c.statements.ensures
    (subst (λ p. GoesUntil i (standing_at i x) c.statements.result.now p z.store z.locks s stopped) c.start.ensures c.in_ok-stopped.ensures.goes) in
    let others = c.in_ok-forget.ensures.others ∙ c.in_ok-stopped.ensures.others in
    let rest = others-rest i x y c.requires.inside others in
    let forgot = c.in_ok-forget.ensures.forgot in
    let member : member_at y i ≡ record { state = record { status = s.status; transcript = [] }; rest = (member_at x i).rest } = λ k. record {
      state = record { status = (forgot k).own.status; transcript = (forgot k).own.transcript };
      rest = rest k;
    } in
    subst (λ e. HasEnded e i block x y) (sym c.in_ok-end.ensures)
    (ended x i block c.requires.stage c.requires.inside z.store z.locks s y (λ k. (forgot k).layers) (λ k. (forgot k).locks)
    (others-set i x y others ∙ ap (set x.members i) member) stopped goes c.in_ok-stopped.ensures.waits)
