use Rattle.std.proofs.Common.{◌≡◌, ◌∙◌, ap, sym, ℕ, ◌<◌, ◌^◌, arith, take_all, length}
use Rattle.perm_ranks.specs.Words.{total, all_words}
use Rattle.perm_ranks.proofs.ShapeLemmas.{total-take-le, too-many}
use Rattle.perm_ranks.proofs.shape.letters_of.Goals as goal

pub add-requires-clause-few : goal.add-requires-clause-few
add-requires-clause-few c =
    omega (arith, ap total c.loop-count.invariant.read, total-take-le c.args.counts.now c.loop-count.count-index, c.requires.steps)

pub returns-then-not-add : goal.returns-then-not-add
returns-then-not-add c =
    too-many c.args.counts.now c.loop-count.count-index (omega (arith, c.loop-count-test.true)) c.loop-count.letters c.loop-count.invariant.read
    (sym c.add.ensures.fits ∙ c.if-not-add.true)

pub returns : goal.returns
returns c =
    let whole : c.loop-count.letters ≡ c.args.counts.now = c.loop-count.invariant.read ∙ take_all c.loop-count.count-index c.args.counts.now (omega arith) in
    let same = ap (λ counts. length (all_words counts)) whole in
    (whole, omega (arith, same, c.loop-count.invariant.few))
