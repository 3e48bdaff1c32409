use Rattle.std.proofs.Common.{◌≡◌, ◌∙◌, ◌≤◌, length, arith, ◌⊎◌, ⊎_elim}
use Rattle.known_worlds.proofs.FrontLemmas.{alike-more, alike-ends, alike-old, alike-new}
use Rattle.known_worlds.proofs.front.shared_front.Goals as goal

pub loop-place-preserved : goal.loop-place-preserved
loop-place-preserved c =
    alike-more c.args.old.now c.args.new.now c.loop-place.place (omega (arith, c.loop-place-test.true, c.min-most.ensures))
    (omega (arith, c.loop-place-test.true, c.min-most.ensures)) c.if-old-place.false c.loop-place.invariant

pub returns-then-old-place : goal.returns-then-old-place
returns-then-old-place c =
    alike-ends c.args.old.now c.args.new.now c.loop-place.place (omega (arith, c.loop-place-test.true, c.min-most.ensures))
    (omega (arith, c.loop-place-test.true, c.min-most.ensures)) c.if-old-place.true c.loop-place.invariant

pub returns : goal.returns
returns c =
    let n = c.loop-place.place in
    let xs = c.args.old.now in
    let ys = c.args.new.now in
    let most : c.min-most.result ≡ n = omega (arith, c.loop-place-test.false, c.loop-place.auto.place-end) in
    let cases : (length xs ≤ n) ⊎ (length ys ≤ n) = grind (arith, most, c.min-most.ensures) in
    most ∙ ⊎_elim (λ h. alike-old xs ys n h c.loop-place.invariant) (λ h. alike-new xs ys n h c.loop-place.invariant) cases
