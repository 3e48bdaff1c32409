use Rattle.std.proofs.Common.{◌≡◌, ◌∙◌, ap, map, subst, sym}
use Rattle.std.proofs.lemmas.List.{take_all}
use Rattle.plan_pairs.specs.Pairs.{ArePairs}
use Rattle.plan_pairs.specs.Requests.{row_of}
use Rattle.plan_pairs.proofs.PairLemmas.{table-is}
use Rattle.plan_pairs.proofs.pairs.StepPairs.of_spec.Goals as goal

pub returns : goal.returns
returns c =
    let spec = c.args.spec.now.run in
    let steps = c.in_ok-steps.steps.items in
    let items = c.deref-step-items.result.now in
    let same : items ≡ steps = c.deref-step-items.ensures.value in
    let rows : c.loop-step.rows.items ≡ map (λ qs. row_of qs steps) steps =
    c.loop-step.invariant ∙ ap (map (λ qs. row_of qs items)) (take_all c.loop-step.step-index items c.loop-step-test.false)
    ∙ (λ i. map (λ qs. row_of qs (same i)) (same i)) in
    subst (ArePairs spec) (sym rows) (table-is spec c.args.numbers.now c.numbers_are_apart.ensures c.requires steps c.in_ok-steps.ensures)
