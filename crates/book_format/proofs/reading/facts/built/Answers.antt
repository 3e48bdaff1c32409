use Rattle.std.proofs.Common.{ap, arith}
use Rattle.book_format.specs.declared.reading.facts.RankFact.{RankFact}
use Rattle.book_format.proofs.Steps.{below-at, built-more}
use Rattle.book_format.proofs.reading.facts.built.Goals as goal

pub overflow_add-fact : goal.overflow_add-fact
overflow_add-fact c =
    let lt = below-at c.args.ranks c.args.facts.now c.loop-fact.fact-index c.fact-item.result c.loop-fact-test.true c.requires.few in
    let here = ap (λ (f : RankFact). f.rank) c.fact-item.is in
    let fits = c.ranges.ranks.fits in
    omega (arith, lt, here, fits)

pub loop-fact-preserved : goal.loop-fact-preserved
loop-fact-preserved c =
    built-more c.args.facts.now c.loop-fact.fact-index c.fact-item.result c.loop-fact.builder _ c.loop-fact-test.true c.fact-item.is c.requires.rising
    c.loop-fact.invariant.0 c.in_ok-push.ensures.ok
