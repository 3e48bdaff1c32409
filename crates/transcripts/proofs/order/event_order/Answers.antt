use Rattle.std.proofs.Common.{◌++◌, ◌∷◌, [], sym, ap, ◌∙◌}
use Rattle.std.specs.Ordering.{is_ne}
use Rattle.transcripts.specs.Compact.{bytes_cmp, whole_json, cell_json, array_json}
use Rattle.transcripts.proofs.EventOrder.{event-by-parts}
use Rattle.transcripts.proofs.SideBySide.{first-decides, second-decides, third-decides}
use Rattle.transcripts.proofs.order.event_order.Goals as goal

-- the fronts differ
pub returns-then-is_ne : goal.returns-then-is_ne
returns-then-is_ne c =
    let fronts = c.front_order-fronts.ensures in
    let told = ap is_ne (sym fronts) ∙ sym c.is_ne.ensures ∙ c.if-is_ne.true in
    fronts ∙ sym (first-decides _ _ _ _ (event-by-parts c.args.a.now c.args.b.now) told)

-- the numbers differ
pub returns-then-is_ne-2 : goal.returns-then-is_ne-2
returns-then-is_ne-2 c =
    let fronts = c.front_order-fronts.ensures in
    let numbers = c.number_order-numbers.ensures
    ∙ (λ i. bytes_cmp (whole_json (c.number.ensures i) ++ 93 ∷ []) (whole_json (c.number-2.ensures i) ++ 93 ∷ [])) in
    let tie = ap is_ne (sym fronts) ∙ sym c.is_ne.ensures ∙ c.if-is_ne.false in
    let told = ap is_ne (sym numbers) ∙ sym c.is_ne-2.ensures ∙ c.if-is_ne-2.true in
    numbers ∙ sym (second-decides _ _ _ _ (event-by-parts c.args.a.now c.args.b.now) tie told)

-- the rows decide
pub returns : goal.returns
returns c =
    let fronts = c.front_order-fronts.ensures in
    let numbers = c.number_order-numbers.ensures
    ∙ (λ i. bytes_cmp (whole_json (c.number.ensures i) ++ 93 ∷ []) (whole_json (c.number-2.ensures i) ++ 93 ∷ [])) in
    let rows = c.row_order.ensures ∙ (λ i. bytes_cmp (array_json cell_json (c.values.ensures i)) (array_json cell_json (c.values-2.ensures i))) in
    let tie = ap is_ne (sym fronts) ∙ sym c.is_ne.ensures ∙ c.if-is_ne.false in
    let tie-too = ap is_ne (sym numbers) ∙ sym c.is_ne-2.ensures ∙ c.if-is_ne-2.false in
    rows ∙ sym (third-decides _ _ _ _ (event-by-parts c.args.a.now c.args.b.now) tie tie-too)
