use Rattle.std.proofs.Common.{◌≡◌, ◌∙◌, sym, ap, length, arith}
use lib.ListN.{get_elem?}
use mathlib.Core.Option.{some}
use Rattle.shard_farm.proofs.CrewLemmas.{found_at}
use Rattle.farm_headline.specs.declared.headline.Plan.{Plan}
use Rattle.farm_headline.proofs.HeadlineLemmas.{plan-more, plans-all, refused-by}
use Rattle.farm_headline.proofs.headline.book_of_runs.Goals as goal

-- a plan is refused
pub returns-in_err-book : goal.returns-in_err-book
returns-in_err-book g c =
    let here : get_elem? c.args.plans.now c.loop-place.place ≡ some c.index-plans-place.result =
    found_at c.args.plans.now c.loop-place.place c.index-plans-place.result c.loop-place-test.true ∙ ap (λ (p : Plan). some p) (sym c.index-plans-place.is) in
    refused-by c.args.spec.now c.args.job.now c.args.plans.now c.loop-place.place c.index-plans-place.result here c.loop-place.book c.loop-place.invariant _ _
    c.in_err-book.ensures c.from_residual.ensures.1

-- one plan more
pub loop-place-preserved : goal.loop-place-preserved
loop-place-preserved g c =
    let here : get_elem? c.args.plans.now c.loop-place.place ≡ some c.index-plans-place.result =
    found_at c.args.plans.now c.loop-place.place c.index-plans-place.result c.loop-place-test.true ∙ ap (λ (p : Plan). some p) (sym c.index-plans-place.is) in
    plan-more c.args.spec.now c.args.job.now c.args.plans.now c.loop-place.place c.index-plans-place.result here c.loop-place.book c.in_ok-book.book
    c.loop-place.invariant c.in_ok-book.ensures

-- all plans
pub returns : goal.returns
returns g c =
    let all : c.loop-place.place ≡ length c.args.plans.now = omega (arith, c.loop-place-test.false, c.loop-place.auto.place-end) in
    plans-all c.args.spec.now c.args.job.now c.args.plans.now c.loop-place.place c.loop-place.book all c.loop-place.invariant
