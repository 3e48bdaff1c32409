use Rattle.std.proofs.Common.{sym, ◌∙◌, arith}
use Rattle.class_texts.proofs.WilsonLemmas.{low-near, low-far}
use Rattle.class_texts.proofs.intervals.Part.low.Goals as goal

pub loop-share-preserved : goal.loop-share-preserved
loop-share-preserved c = record {
  same = low-near c.args.self.whole c.args.self.part c.loop-share.share c.loop-share-test.true (sym c.if-not-is_far.ensures) ∙ c.loop-share.invariant.same;
  few = let few = c.loop-share.invariant.few in omega (arith, few);
}

pub returns-else-not-is_far : goal.returns-else-not-is_far
returns-else-not-is_far c =
    low-far c.args.self.whole c.args.self.part c.loop-share.share c.loop-share-test.true (sym c.if-not-is_far.ensures) ∙ c.loop-share.invariant.same
