use Rattle.std.proofs.Common.{sym, ap, ◌∙◌, subst, ◌≡◌, ◌<◌, arith, rules, length, get_or}
use Rattle.fact_books.specs.Sweep.{AllBelow}
use Rattle.fact_books.proofs.FillLemmas.{below-at}
use Rattle.fact_books.proofs.ReportLemmas.{outcome-at, default-at}
use Rattle.fact_books.proofs.reports.Report.outcome.Goals as goal

pub bounds-outcomes-n : goal.bounds-outcomes-n
bounds-outcomes-n c =
    let numbers = c.as_slice-numbers.ensures.value in
    let long : length c.as_slice-numbers.result.now ≡ length c.self.inside.numbers.items = ap length numbers in
    let few : c.args.rank < length c.as_slice-numbers.result.now = omega (arith, long, c.len.ensures, c.if-rank-len.false) in
    subst (λ os. get_or c.as_slice-numbers.result.now c.args.rank 0 < length os) (sym c.as_slice-outcomes.ensures.value)
    (below-at (length c.self.inside.outcomes.items) c.as_slice-numbers.result.now c.args.rank 0 few
    (subst (AllBelow (length c.self.inside.outcomes.items)) (sym numbers) c.self.invariant.numbered))

pub offset_bounds-outcomes-n : goal.offset_bounds-outcomes-n
offset_bounds-outcomes-n c =
    let numbers = c.as_slice-numbers.ensures.value in
    let long : length c.as_slice-numbers.result.now ≡ length c.self.inside.numbers.items = ap length numbers in
    let few : c.args.rank < length c.as_slice-numbers.result.now = omega (arith, long, c.len.ensures, c.if-rank-len.false) in
    let lt : get_or c.as_slice-numbers.result.now c.args.rank 0 < length c.as_slice-outcomes.result.now =
    subst (λ os. get_or c.as_slice-numbers.result.now c.args.rank 0 < length os) (sym c.as_slice-outcomes.ensures.value)
    (below-at (length c.self.inside.outcomes.items) c.as_slice-numbers.result.now c.args.rank 0 few
    (subst (AllBelow (length c.self.inside.outcomes.items)) (sym numbers) c.self.invariant.numbered)) in
    search rules

pub returns : goal.returns
returns c =
    let numbers = c.as_slice-numbers.ensures.value in
    let outcomes = c.as_slice-outcomes.ensures.value in
    let long : length c.as_slice-numbers.result.now ≡ length c.self.inside.numbers.items = ap length numbers in
    let few : c.args.rank < length c.self.inside.numbers.items = omega (arith, long, c.len.ensures, c.if-rank-len.false) in
    outcome-at c.self.inside.outcomes.items c.self.inside.numbers.items c.args.self.now c.args.rank
    (get_or c.as_slice-numbers.result.now c.args.rank 0) c.index-outcomes-n.result c.index-outcomes-n.result
    c.self.view_is few (default-at c.as_slice-numbers.result.now c.self.inside.numbers.items c.args.rank numbers few)
    (c.index-outcomes-n.is ∙ ap (λ os. get_or os (get_or c.as_slice-numbers.result.now c.args.rank 0) c.index-outcomes-n.result) outcomes)
    (subst (λ ns. get_or ns c.args.rank 0 < length c.self.inside.outcomes.items) (sym numbers)
    (below-at (length c.self.inside.outcomes.items) c.self.inside.numbers.items c.args.rank 0 few c.self.invariant.numbered))
