use Rattle.std.proofs.Common.{◌≤◌, ◌⊎◌, sym, ◌∙◌, inl, inr, length, arith}
use Rattle.transcripts.specs.Compact.{cell_json}
use Rattle.transcripts.proofs.EventCodes.{cell_code}
use Rattle.transcripts.proofs.SideBySide.{items-next, items-found, items-passed, items-ends}
use Rattle.transcripts.proofs.order.row_order.Goals as goal
use Rattle.transcripts.proofs.order.row_order.Goals.{then-loop-place-test+else-place-b, else-loop-place-test}

-- what differs decides
pub returns-then-is_ne : goal.returns-then-is_ne
returns-then-is_ne c =
    let next = items-next cell_json _ _ c.loop-place.place _ _ c.index-a-place.result c.index-b-place.result _ c.loop-place-test.true c.if-place-b.true
    c.index-a-place.is c.index-b-place.is c.end_at.ensures c.end_at-in-loop-place.ensures c.cell_order-order.ensures in
    items-found cell_json cell_code _ _ c.loop-place.place _ _ c.loop-place.invariant.2 next (sym c.is_ne.ensures ∙ c.if-is_ne.true)

-- what ties is passed
pub loop-place-preserved : goal.loop-place-preserved
loop-place-preserved c =
    let next = items-next cell_json _ _ c.loop-place.place _ _ c.index-a-place.result c.index-b-place.result _ c.loop-place-test.true c.if-place-b.true
    c.index-a-place.is c.index-b-place.is c.end_at.ensures c.end_at-in-loop-place.ensures c.cell_order-order.ensures in
    (omega arith, omega arith, items-passed _ _ _ _ c.loop-place.invariant.2 next (sym c.is_ne.ensures ∙ c.if-is_ne.false))

-- the shorter list comes last
pub returns : goal.returns
returns c =
    let stop : (length c.args.a.now ≤ c.loop-place.place) ⊎ (length c.args.b.now ≤ c.loop-place.place) =
    elim c.loop-place-test.branch [ then-loop-place-test+else-place-b w ↦ inr (omega arith) | else-loop-place-test w ↦ inl (omega arith) ] in
    c.cmp.ensures ∙ items-ends cell_json cell_code _ _ c.loop-place.place c.loop-place.invariant.0 c.loop-place.invariant.1 stop c.loop-place.invariant.2
