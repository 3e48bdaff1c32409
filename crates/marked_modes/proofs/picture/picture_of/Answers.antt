use Rattle.std.proofs.Common.{arith}
use Rattle.marked_modes.proofs.PictureLemmas.{behind-blank, behind-held}
use Rattle.marked_modes.proofs.picture.picture_of.Goals as goal
use Rattle.marked_modes.proofs.picture.picture_of.Goals.{then-is_blank, else-is_blank+in_ok-push}

pub loop-place-preserved : goal.loop-place-preserved
loop-place-preserved c = elim c.if-is_blank.branch [
  | then-is_blank w ↦
      rw (w.held-is, w.before-is) (
        behind-blank c.args.rows.now c.loop-place.place c.loop-place-test.true c.loop-place.held.items c.loop-place.before c.loop-place.invariant.0
            (c.is_blank.ensures w.if-is_blank.true),
        (let kept = c.loop-place.invariant.1 in omega (arith, kept)),
      )
  | else-is_blank+in_ok-push w ↦
      rw (w.held-is, w.before-is, w.in_ok-push.ensures.items) (
        behind-held c.args.rows.now c.loop-place.place c.loop-place-test.true c.loop-place.held.items c.loop-place.before c.loop-place.invariant.0,
        omega arith,
      )
]
