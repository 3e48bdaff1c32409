use Rattle.std.proofs.Common.{arith}
use Rattle.marked_modes.proofs.PictureLemmas.{behind-blank, behind-known}
use Rattle.marked_modes.proofs.picture.are_pictured.Goals as goal
use Rattle.marked_modes.proofs.picture.are_pictured.Goals.{then-is_blank, else-is_blank+then-is_at}

pub loop-place-preserved : goal.loop-place-preserved
loop-place-preserved c = elim c.if-is_blank.branch [
  | then-is_blank w ↦
      rw (w.passed-is, w.before-is) (
        behind-blank c.args.rows.now c.loop-place.place c.loop-place-test.true _ c.loop-place.before c.loop-place.invariant.0
            (c.is_blank.ensures w.if-is_blank.true),
        (let kept = c.loop-place.invariant.1 in omega (arith, kept)),
      )
  | else-is_blank+then-is_at w ↦
      rw (w.passed-is, w.before-is) (
        behind-known c.args.rows.now c.loop-place.place c.loop-place-test.true c.as_slice-held.result.now c.loop-place.passed c.loop-place.before c.loop-place.invariant.0
            (w.is_at.ensures w.if-is_at.true),
        omega arith,
      )
]
