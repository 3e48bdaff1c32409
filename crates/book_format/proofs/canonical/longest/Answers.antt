use Rattle.std.proofs.Common.{refl, sym, ap, ◌∙◌, subst, rules, length, ◌<◌, ◌≤◌, ⊎_elim, arith}
use Rattle.std.specs.List.{list_any}
use Rattle.book_format.specs.Forms.{Rises, IsLater}
use Rattle.fact_books.specs.Runs.{AllSound, has}
use Rattle.book_format.specs.Canonical.{IsPast}
use Rattle.book_format.proofs.CanonicalLemmas.{joining-start, joining-grow, joining-push, joined-rises, joined-facts}
use Rattle.book_format.proofs.InTurnLemmas.{turn-start, turn-grow, turn-push, turn-rises, turn-facts}
use Rattle.book_format.proofs.canonical.longest.Goals as goal
use Rattle.book_format.proofs.canonical.longest.Goals.{then-touches, else-touches+in_ok-push}

-- the first run is in hand
pub loop-i-init : goal.loop-i-init
loop-i-init c =
    let some : 0 < length c.args.runs.now = search rules in
    rw (c.new-out.ensures.items) (record {
      sorted = λ s. joining-start c.args.runs.now _ some s _ refl;
      in_turn = λ t. turn-start c.args.runs.now _ _ some refl;
    })

-- the run in hand grows, or stands as it is
pub loop-i-preserved : goal.loop-i-preserved
loop-i-preserved c = elim c.if-touches.branch [
  | then-touches w ↦
      let t = w.if-touches.ensures.yes refl in
      rw (w.out-is, w.current-is) (record {
        sorted = λ s. joining-grow c.args.runs.now c.loop-i.out.items c.loop-i.i c.loop-i.current _ _ _ c.loop-i-test.true refl
            (c.loop-i.invariant.sorted s) t.0 t.1 w.grown-current.ensures.first w.grown-current.ensures.end w.grown-current.ensures.tag;
        in_turn = λ s. turn-grow c.args.runs.now c.loop-i.out.items c.loop-i.i c.loop-i.current _ _ _ c.loop-i-test.true refl s
            c.requires.sound.0 c.requires.sound.1 (c.loop-i.invariant.in_turn s) t.0 t.1
            w.grown-current.ensures.first w.grown-current.ensures.end w.grown-current.ensures.tag;
      })
  | else-touches+in_ok-push w ↦
      rw (w.out-is, w.in_ok-push.ensures.items, w.current-is) (record {
        sorted = λ s. joining-push c.args.runs.now c.loop-i.out.items c.loop-i.i c.loop-i.current _ _ c.loop-i-test.true refl s
            c.requires.sound.0 c.requires.sound.1 (c.loop-i.invariant.sorted s) (w.if-touches.ensures.no refl);
        in_turn = λ s. turn-push c.args.runs.now c.loop-i.out.items c.loop-i.i c.loop-i.current _ _ c.loop-i-test.true refl s
            c.requires.sound.0 c.requires.sound.1 (c.loop-i.invariant.in_turn s) (w.if-touches.ensures.no refl);
      })
]

pub returns-clause-apart : goal.returns-clause-apart
returns-clause-apart c = λ s. subst (Rises IsPast) (sym c.in_ok-push-2.ensures.items)
    (joined-rises c.args.runs.now c.loop-i.out.items c.loop-i.i c.loop-i.current (c.loop-i.invariant.sorted s))

pub returns-clause-rises : goal.returns-clause-rises
returns-clause-rises c = λ s. subst (Rises IsLater) (sym c.in_ok-push-2.ensures.items)
    (turn-rises c.args.runs.now c.loop-i.out.items c.loop-i.i c.loop-i.current (c.loop-i.invariant.in_turn s))

pub returns-clause-facts : goal.returns-clause-facts
returns-clause-facts c = λ t e.
    let past : length c.args.runs.now ≤ c.loop-i.i = omega (arith, c.loop-i-test.false, c.loop-i.auto.i-end) in
    ap (list_any (has t e)) c.in_ok-push-2.ensures.items ∙ ⊎_elim
    (λ s. joined-facts c.args.runs.now c.loop-i.out.items c.loop-i.i c.loop-i.current past (c.loop-i.invariant.sorted s) t e)
    (λ s. turn-facts c.args.runs.now c.loop-i.out.items c.loop-i.i c.loop-i.current past (c.loop-i.invariant.in_turn s) t e) c.requires.order

pub returns-clause-sound : goal.returns-clause-sound
returns-clause-sound c = λ n a. subst (AllSound n) (sym c.in_ok-push-2.ensures.items) (⊎_elim
    (λ s. (c.loop-i.invariant.sorted s).sound n a)
    (λ s. (c.loop-i.invariant.in_turn s).sound n a) c.requires.order)
