use Rattle.std.proofs.Common.{refl, sym, subst, [], ◌∷◌, ◌++◌, length-append, arith}
use Rattle.perm_ranks.specs.Blocks.{Block, HasRank}
use Rattle.perm_ranks.proofs.shared.shared_block.Goals as goal

pub loop-letter-init : goal.loop-letter-init
loop-letter-init c = (
  [],
  c.block-block.ensures.whole,
  refl,
  subst (λ (b : Block). HasRank b c.args.rank) (sym c.block-block.ensures.all)
      (omega arith, omega (arith, c.requires.has)),
)

pub at-letter-requires-clause-some : goal.at-letter-requires-clause-some
at-letter-requires-clause-some c =
    let letters = c.loop-letter.invariant.1.letters in
    let now = c.loop-letter.invariant.2 in
    omega (arith, letters, now, c.requires.letters, c.loop-letter-test.true)

pub loop-letter-preserved : goal.loop-letter-preserved
loop-letter-preserved c =
    let letter = c.at-letter.result.0 in
    let shared = c.loop-letter.invariant.0 in
    let long = length-append shared (letter ∷ []) in
    let now = c.loop-letter.invariant.2 in
    (shared ++ letter ∷ [], c.at-letter.ensures.block c.args.shape.now shared c.loop-letter.invariant.1, omega (arith, long, now), c.at-letter.ensures.inside)

pub returns : goal.returns
returns c =
    let now = c.loop-letter.invariant.2 in
    record {
      shared = c.loop-letter.invariant.0;
      is_block = c.loop-letter.invariant.1;
      long = omega (arith, now, c.loop-letter-test.false, c.loop-letter.auto._letter-end);
      has = c.loop-letter.invariant.3;
    }
