use Rattle.std.proofs.Common.{◌≡◌, ◌≢◌, refl, sym, ap, ◌∙◌, subst, suc, ◌+◌, ◌-◌, get_or, replicate, Some, arith}
use Rattle.std.specs.Prelude.{slice_get}
use Rattle.std.specs.Cmp.Lexicographic.{same_text, other_text}
use Rattle.perm_ranks.specs.declared.TheConstants.{MAX_SESSIONS}
use Rattle.perm_ranks.proofs.CountLemmas.{total-set}
use Rattle.marked_worlds.specs.Worlds.{MarkedRunning}
use Rattle.std.proofs.lemmas.List.{length-set}
use Rattle.spec_classes.specs.Serial.{IsAnswerFrom, IsRun, whole}
use Rattle.spec_classes.proofs.Answering.{IsAnswerBelow, below-all, below-next, below-skip, none-run, ready-numbered, ready-still, run-behind, run-noted, run-numbered, run-walked}
use Rattle.spec_classes.proofs.serial.+orders.Goals.{add_each-then-left-session-gt0+in_ok-add_behind, add_each-else-left-session-gt0}
use Rattle.spec_classes.proofs.serial.+orders.Goals as goal

pub add_behind-add_orders-requires : goal.add_behind-add_orders-requires
add_behind-add_orders-requires t c =
    let is = c.in_ok-mark.ensures.marked in (
      omega (arith, c.decreases),
      (
        c.requires.long,
        ready-still c.args.tables.now c.args.world.now c.send_session.new.world c.args.answered.now c.args.answered.now
            (c.send_session.ensures.of_spec ∙ ap (λ (m : MarkedRunning). m.file) is) c.in_ok-send_session.ensures.whole
            (λ k w e. subst (λ s. slice_get s k ≡ Some w) (sym (c.send_session.ensures.seen ∙ ap (λ (m : MarkedRunning). m.seen) is)) e) refl (λ a there. there) c.requires.ready,
      ),
    )

pub add_behind-returns : goal.add_behind-returns
add_behind-returns t c =
    let is = c.in_ok-mark.ensures.marked in
    run-behind c.args.tables.now c.args.world.now c.send_session.new.world c.add_orders.new.world c.go_back.new.self c.args.session c.args.left c.args.answered.now c.add_orders.new.answered
    (c.send_session.ensures.of_spec ∙ ap (λ (m : MarkedRunning). m.file) is) (c.in_ok-send_session.ensures.sent ∙ ap (λ (m : MarkedRunning). whole m.file.run m.world c.args.session) is)
    (c.send_session.ensures.marked ∙ ap (λ (m : MarkedRunning). m.marked) is) (c.send_session.ensures.seen ∙ ap (λ (m : MarkedRunning). m.seen) is) c.in_ok-add_orders.ensures
    c.go_back.ensures.marked c.go_back.ensures.whole c.go_back.ensures.of_spec c.go_back.ensures.seen

pub add_each-loop-session-preserved : goal.add_each-loop-session-preserved
add_each-loop-session-preserved t c =
    let tables = c.args.tables.now in
    let start = c.args.world.now in
    let left = c.args.left in
    let old = c.args.answered.now in
    let k = c.loop-session.session in
    let now = c.loop-session.world in
    let mid = c.loop-session.answered in
    elim c.if-left-session-gt0.branch [
      | add_each-then-left-session-gt0+in_ok-add_behind w ↦
          let some : get_or left k 0 ≡ suc (get_or left k 0 - 1) = omega (arith, w.if-left-session-gt0.true) in
          subst (λ a. IsRun tables (IsAnswerBelow tables left (k + 1)) start old c.if-left-session-gt0.world a) (sym w.answered-is)
          (subst (λ m. IsRun tables (IsAnswerBelow tables left (k + 1)) start old m w.add_behind.new.answered) (sym w.world-is)
          (below-next tables left k (get_or left k 0 - 1) start now w.add_behind.new.world old mid w.add_behind.new.answered some c.loop-session.invariant w.in_ok-add_behind.ensures))
      | add_each-else-left-session-gt0 w ↦
          subst (λ a. IsRun tables (IsAnswerBelow tables left (k + 1)) start old c.if-left-session-gt0.world a) (sym w.answered-is)
          (subst (λ m. IsRun tables (IsAnswerBelow tables left (k + 1)) start old m mid) (sym w.world-is)
          (below-skip tables left k start now old mid (omega (arith, w.if-left-session-gt0.false)) c.loop-session.invariant))
    ]

pub add_each-returns : goal.add_each-returns
add_each-returns t c =
    below-all c.args.tables.now c.args.left c.loop-session.session c.args.world.now c.loop-session.world c.args.answered.now c.loop-session.answered
    (subst (λ n. c.args.left ≢ replicate n 0) (sym c.requires.long) c.requires.some) (omega (arith, c.requires.long, c.loop-session-test.false)) c.loop-session.invariant

pub add_orders-returns-then-eq : goal.add_orders-returns-then-eq
add_orders-returns-then-eq t c =
    let tables = c.args.tables.now in
    subst (λ l. IsRun tables (IsAnswerFrom tables l) c.args.world.now c.args.answered.now c.add_answer.new.world c.add_answer.new.answered)
    (sym (same_text c.args.left (replicate MAX_SESSIONS 0) (sym c.if-eq.true ∙ c.eq.ensures)))
    (none-run tables MAX_SESSIONS c.args.world.now c.add_answer.new.world c.args.answered.now c.add_answer.new.answered c.in_ok-add_answer.ensures)

pub add_orders-returns-then-has : goal.add_orders-returns-then-has
add_orders-returns-then-has t c =
    let tables = c.args.tables.now in
    let l = c.args.world.now in
    let m = c.number_within.new.self in
    let same = c.number_within.ensures.same in
    run-numbered tables (IsAnswerFrom tables c.args.left) l m m c.args.answered.now c.args.answered.now c.requires.ready c.number_within.ensures.front same
    (λ ready. run-walked tables m c.args.answered.now c.args.left c.in_ok-number.number l.world ready (ap (λ (x : MarkedRunning). x.world) same) c.in_ok-number.ensures.known
    (c.has.ensures c.if-has.true))

pub add_orders-add_each-requires : goal.add_orders-add_each-requires
add_orders-add_each-requires t c = (
  omega (arith, c.decreases),
  (
    c.requires.long,
    (
      other_text c.args.left (replicate MAX_SESSIONS 0) (sym c.if-eq.false ∙ c.eq.ensures),
      ready-numbered c.args.tables.now c.args.world.now c.number_within.new.self c.args.answered.now c.requires.ready c.number_within.ensures.front c.number_within.ensures.same,
    ),
  ),
)

pub add_orders-returns : goal.add_orders-returns
add_orders-returns t c =
    let tables = c.args.tables.now in
    let l = c.args.world.now in
    let m = c.number_within.new.self in
    let same = c.number_within.ensures.same in
    run-numbered tables (IsAnswerFrom tables c.args.left) l m c.add_each.new.world c.args.answered.now c.note.new.self c.requires.ready c.number_within.ensures.front same
    (λ ready. run-noted tables m c.add_each.new.world c.args.answered.now c.add_each.new.answered c.note.new.self c.args.left c.in_ok-number.number l.world
    (ap (λ (x : MarkedRunning). x.world) same) c.in_ok-number.ensures.known c.in_ok-add_each.ensures c.note.ensures.answers c.note.ensures.noted)

-- one session less is left behind it
pub add_each-add_behind-requires : goal.add_each-add_behind-requires
add_each-add_behind-requires t c =
    let left = c.args.left in
    let k = c.loop-session.session in
    let some : get_or left k 0 ≡ suc (get_or left k 0 - 1) = omega (arith, c.if-left-session-gt0.true) in
    let less = total-set left k (get_or left k 0 - 1) some in (
      omega (arith, c.decreases, less),
      (length-set left k (get_or left k 0 - 1) ∙ c.requires.long, c.loop-session.invariant.ready),
    )
