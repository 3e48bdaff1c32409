use Rattle.std.proofs.Common.{◌≡◌, ◌+◌, sym, ap, ◌∙◌, List, length, arith}
use Rattle.std.proofs.lemmas.Bool.{false≢true}
use Rattle.fact_books.specs.Entries.{Told}
use Rattle.fact_books.proofs.FillLemmas.{below-at}
use Rattle.accepted_outputs.proofs.Places.{agree-all, ended-alike, one-more, many, same-values, apart-values}
use Rattle.accepted_outputs.proofs.comparing.first_rank.Goals as goal

pub is_alike-requires-clause-number : goal.is_alike-requires-clause-number
is_alike-requires-clause-number c =
    below-at _ c.parts.result.1.now c.loop-rank.rank 0 (omega (arith, c.loop-rank-test.true, c.min-shorter.ensures)) c.parts.ensures.numbered

pub is_alike-requires-clause-name : goal.is_alike-requires-clause-name
is_alike-requires-clause-name c =
    below-at _ c.parts-2.result.1.now c.loop-rank.rank 0 (omega (arith, c.loop-rank-test.true, c.min-shorter.ensures)) c.parts-2.ensures.numbered

pub returns-then-not-is_alike : goal.returns-then-not-is_alike
returns-then-not-is_alike c = record {
  before = c.loop-rank.invariant.before;
  there = apart-values c.parts.result.0.now c.parts-2.result.0.now c.parts.result.1.now c.parts-2.result.1.now c.args.report.now c.args.other.now
      c.loop-rank.rank
      c.parts.ensures.values c.parts-2.ensures.values
      (omega (arith, c.loop-rank-test.true, c.min-shorter.ensures)) (omega (arith, c.loop-rank-test.true, c.min-shorter.ensures))
      (λ e. false≢true (sym c.if-not-is_alike.true ∙ c.is_alike.ensures.1 e));
}

pub loop-rank-preserved : goal.loop-rank-preserved
loop-rank-preserved c =
    let same = c.is_alike.ensures.0 c.if-not-is_alike.false in
    record {
      before = one-more c.args.report.now c.args.other.now c.loop-rank.rank (c.loop-rank.rank + 1) (omega arith) c.loop-rank.invariant.before
          (same-values c.parts.result.0.now c.parts-2.result.0.now c.parts.result.1.now c.parts-2.result.1.now c.args.report.now c.args.other.now
          c.loop-rank.rank
          c.parts.ensures.values c.parts-2.ensures.values
          (omega (arith, c.loop-rank-test.true, c.min-shorter.ensures)) (omega (arith, c.loop-rank-test.true, c.min-shorter.ensures)) same);
      known = same;
    }

pub returns-then-numbers-names : goal.returns-then-numbers-names
returns-then-numbers-names c =
    let long = sym (ap (λ (l : List Told). length l) c.parts.ensures.values) ∙ many c.parts.result.0.now c.parts.result.1.now in
    let other = sym (ap (λ (l : List Told). length l) c.parts-2.ensures.values) ∙ many c.parts-2.result.0.now c.parts-2.result.1.now in
    let most : c.loop-rank.rank ≡ c.min-shorter.result = omega (arith, c.loop-rank-test.false, c.loop-rank.auto.rank-end) in
    agree-all c.args.report.now c.args.other.now c.loop-rank.rank
    (omega (arith, long, other, most, c.min-shorter.ensures, c.if-numbers-names.true)) c.loop-rank.invariant.before
    (ended-alike c.args.report.now c.args.other.now c.loop-rank.rank
    (omega (arith, long, most, c.min-shorter.ensures, c.if-numbers-names.true)) (omega (arith, long, other, c.if-numbers-names.true)))

pub returns-else-numbers-names : goal.returns-else-numbers-names
returns-else-numbers-names c =
    let long = sym (ap (λ (l : List Told). length l) c.parts.ensures.values) ∙ many c.parts.result.0.now c.parts.result.1.now in
    let other = sym (ap (λ (l : List Told). length l) c.parts-2.ensures.values) ∙ many c.parts-2.result.0.now c.parts-2.result.1.now in
    record {
      before = λ n lt. c.loop-rank.invariant.before n (omega (arith, lt, c.loop-rank-test.false));
      there = λ e. (
          let same = ap (λ (l : List Told). length l) (agree-all c.args.report.now c.args.other.now c.min-shorter.result
          (omega (arith, long, other, c.min-shorter.ensures)) (λ n lt. c.loop-rank.invariant.before n (omega (arith, lt, c.loop-rank-test.false))) e) in
          c.if-numbers-names.false (omega (arith, same, long, other)));
    }
