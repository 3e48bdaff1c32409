use Rattle.std.proofs.Common.{◌≡◌, ◌+◌, ◌∙◌, refl, sym, ap, subst, [], length, set, get_or, arith}
use Rattle.perm_ranks.specs.Blocks.{Block, IsBlockOf}
use Rattle.bound_specs.proofs.WalkLemmas.{eight-zeros}
use Rattle.order_names.specs.Steps.{IsRankOfLine}
use Rattle.order_names.proofs.Sending.{Sending, starts, wrong-found, due-found, is-left, one-more, wrong-left, no-rank-left, whole}
use Rattle.order_names.proofs.words.rank_of_word.Goals as goal

-- at the start all words begin like the order
pub loop-place-init : goal.loop-place-init
loop-place-init c =
    let run = c.args.spec.now.run in
    let block = c.block-block.result in
    starts run c.requires.words c.args.line.now _ block eight-zeros refl
    (subst (λ counts. IsBlockOf counts [] block) c.requires.shape c.block-block.ensures.whole)
    (ap (λ (b : Block). b.left) c.block-block.ensures.all ∙ c.requires.shape)

-- a step is not the one that is due
pub returns-in-Some-clause-refused : goal.returns-in-Some-clause-refused
returns-in-Some-clause-refused c =
    (wrong-found c.args.spec.now.run c.requires.words c.args.line.now c.loop-place.next c.loop-place.place c.loop-place.block c.loop-place.invariant
    c.loop-place-test.true c.ready.ensures.few_sessions c.session_of-session.result c.session_of-session.ensures.known (sym c.session_of-session.ensures.is)
    c.in-Some.error c.step_from-due.result c.step_from-due.ensures.next c.in-Some.ensures
    (c.requires.known c.loop-place.place 0 c.loop-place-test.true)).0

pub returns-in-Some-clause-none : goal.returns-in-Some-clause-none
returns-in-Some-clause-none c =
    (wrong-found c.args.spec.now.run c.requires.words c.args.line.now c.loop-place.next c.loop-place.place c.loop-place.block c.loop-place.invariant
    c.loop-place-test.true c.ready.ensures.few_sessions c.session_of-session.result c.session_of-session.ensures.known (sym c.session_of-session.ensures.is)
    c.in-Some.error c.step_from-due.result c.step_from-due.ensures.next c.in-Some.ensures
    (c.requires.known c.loop-place.place 0 c.loop-place-test.true)).1

-- it is
pub narrowed-block-requires : goal.narrowed-block-requires
narrowed-block-requires c =
    let due =
    due-found c.args.spec.now.run c.requires.words c.args.line.now c.loop-place.next c.loop-place.place c.loop-place.block c.loop-place.invariant
    c.loop-place-test.true c.ready.ensures.few_sessions c.session_of-session.result c.session_of-session.ensures.known (sym c.session_of-session.ensures.is)
    c.step_from-due.result c.step_from-due.ensures.next c.in_default.ensures in
    is-left c.args.spec.now.run c.requires.words c.args.line.now c.loop-place.next c.loop-place.place c.loop-place.block c.loop-place.invariant
    c.loop-place-test.true c.ready.ensures.few_sessions c.session_of-session.result c.session_of-session.ensures.known (sym c.session_of-session.ensures.is)
    (c.requires.known c.loop-place.place 0 c.loop-place-test.true) due

pub loop-place-preserved : goal.loop-place-preserved
loop-place-preserved c =
    let run = c.args.spec.now.run in
    let next = c.loop-place.next in
    let i = c.session_of-session.result in
    let step = get_or c.args.line.now c.loop-place.place 0 in
    let due =
    due-found run c.requires.words c.args.line.now next c.loop-place.place c.loop-place.block c.loop-place.invariant
    c.loop-place-test.true c.ready.ensures.few_sessions i c.session_of-session.ensures.known (sym c.session_of-session.ensures.is)
    c.step_from-due.result c.step_from-due.ensures.next c.in_default.ensures in
    subst (Sending run c.args.line.now (c.loop-place.place + 1) (set next i (step + 1))) (sym c.narrowed-block.ensures.narrowed)
    (one-more run c.requires.words c.args.line.now next c.loop-place.place c.loop-place.block c.loop-place.invariant
    c.loop-place-test.true c.ready.ensures.few_sessions i c.session_of-session.ensures.known (sym c.session_of-session.ensures.is)
    (c.requires.known c.loop-place.place 0 c.loop-place-test.true) due)

-- a step is left out
pub returns-in-Some-left_out-clause-refused : goal.returns-in-Some-left_out-clause-refused
returns-in-Some-left_out-clause-refused c =
    let all : c.loop-place.place ≡ length c.args.line.now = omega (arith, c.loop-place-test.false, c.loop-place.auto.place-end) in
    let x = c.in-Some-left_out.ensures in
    wrong-left c.args.spec.now.run c.requires.words c.args.line.now c.loop-place.next c.loop-place.place c.loop-place.block c.loop-place.invariant all
    x.0 c.in-Some-left_out.due x.2.0 x.1 x.2.1

pub returns-in-Some-left_out-clause-none : goal.returns-in-Some-left_out-clause-none
returns-in-Some-left_out-clause-none c =
    let all : c.loop-place.place ≡ length c.args.line.now = omega (arith, c.loop-place-test.false, c.loop-place.auto.place-end) in
    let x = c.in-Some-left_out.ensures in
    no-rank-left c.args.spec.now.run c.requires.words c.args.line.now c.loop-place.next c.loop-place.place c.loop-place.block c.loop-place.invariant all
    x.0 c.in-Some-left_out.due x.2.0 x.1 x.2.1

-- all are sent
pub returns-in-None-clause-rank : goal.returns-in-None-clause-rank
returns-in-None-clause-rank c =
    let all : c.loop-place.place ≡ length c.args.line.now = omega (arith, c.loop-place-test.false, c.loop-place.auto.place-end) in
    subst (IsRankOfLine c.args.spec.now.run c.args.line.now) (sym c.first.ensures)
    (whole c.args.spec.now.run c.requires.words c.args.line.now c.loop-place.next c.loop-place.place c.loop-place.block c.loop-place.invariant all
    c.in-None.ensures)
