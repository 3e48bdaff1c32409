use Rattle.std.proofs.Common.{◌≡◌, sym, ap, ◌∙◌, ◌<◌, true, false, get_or, ◌⊎◌, ⊎_elim, arith}
use Rattle.perm_ranks.proofs.PlaceLemmas.{left-within}
use Rattle.step_reducer.proofs.frame.all_listed.Goals as goal
use Rattle.step_reducer.proofs.frame.all_listed.Goals.{else-left_of-gt0-via-then-left_of-gt0+else-not-is_listed, else-left_of-gt0-via-else-left_of-gt0}

pub loop-letter-preserved : goal.loop-letter-preserved
loop-letter-preserved c = λ letter lt some.
    let cases : (letter < c.loop-letter.letter) ⊎ (c.loop-letter.letter ≡ letter) = grind arith in
    let here : c.loop-letter.letter ≡ letter → get_or c.args.swaps.now.items letter false ≡ true = λ e.
    elim c.else-left_of-gt0.branch [
      | else-left_of-gt0-via-then-left_of-gt0+else-not-is_listed w ↦ ap (λ k. get_or c.args.swaps.now.items k false) (sym e) ∙ sym w.is_listed.ensures
          ∙ w.if-not-is_listed.false
      | else-left_of-gt0-via-else-left_of-gt0 w ↦ absurd
          (omega (arith, w.if-left_of-gt0.false, c.left_of.ensures, ap (λ k. get_or c.args.block.now.left k 0) e, some))
    ] in
    ⊎_elim (λ h. c.loop-letter.invariant letter h some) here cases

pub returns : goal.returns
returns c = λ e letter some.
    let within = left-within c.args.block.now.left letter some in
    c.loop-letter.invariant letter (omega (arith, within, c.sessions-letter-end.ensures, c.loop-letter-test.false)) some
