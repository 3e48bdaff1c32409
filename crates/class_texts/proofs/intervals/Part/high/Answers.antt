use Rattle.std.proofs.Common.{sym, ◌∙◌, arith}
use Rattle.class_texts.proofs.WilsonLemmas.{high-near, high-far, high-end}
use Rattle.class_texts.proofs.intervals.Part.high.Goals as goal
use Rattle.class_texts.proofs.intervals.Part.high.Goals.{then-loop-left-test+else-not-is_far, else-loop-left-test}

pub loop-left-preserved : goal.loop-left-preserved
loop-left-preserved c = record {
  same = high-near c.args.self.whole c.args.self.part c.loop-left.left c.loop-left-test.true (sym c.if-not-is_far.ensures) ∙ c.loop-left.invariant.same;
  few = let few = c.loop-left.invariant.few in omega (arith, few);
}

pub returns : goal.returns
returns c = elim c.loop-left-test.branch [
  | then-loop-left-test+else-not-is_far w ↦
      high-far c.args.self.whole c.args.self.part c.loop-left.left w.loop-left-test.true (sym w.if-not-is_far.ensures) ∙ c.loop-left.invariant.same
  | else-loop-left-test w ↦
      high-end c.args.self.whole c.args.self.part c.loop-left.left (let no = w.loop-left-test.false in omega (arith, no)) ∙ c.loop-left.invariant.same
]
