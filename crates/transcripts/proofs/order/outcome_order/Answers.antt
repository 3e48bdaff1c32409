use Rattle.std.proofs.Common.{◌≡◌, ◌≤◌, ◌⊎◌, sym, ◌∙◌, inl, inr, length, arith}
use Rattle.std.specs.Ordering.{ordering_then}
use Rattle.transcripts.specs.Compact.{session_json, bytes_cmp}
use Rattle.transcripts.proofs.Codes.{closed-ended}
use Rattle.transcripts.proofs.EventOrder.{session_code, session_closed}
use Rattle.transcripts.proofs.SideBySide.{items-next, items-found, items-passed, items-ends}
use Rattle.transcripts.proofs.order.outcome_order.Goals as goal
use Rattle.transcripts.proofs.order.outcome_order.Goals.{then-loop-place-test+else-place-b, else-loop-place-test}

-- what differs decides
pub returns-then-is_ne : goal.returns-then-is_ne
returns-then-is_ne c =
    let told : c.session_order-order.result
    ≡ bytes_cmp (session_json c.index-a-place.result) (session_json c.index-b-place.result) = c.session_order-order.ensures
    ∙ (λ i. bytes_cmp (session_json (c.events.ensures i)) (session_json (c.events-in-loop-place.ensures i))) in
    let both = c.then-order.ensures ∙ (λ i. ordering_then (told i) (c.cmp.ensures i))
    ∙ sym (closed-ended session_json session_closed c.index-a-place.result c.index-b-place.result c.end_at.result c.end_at-in-loop-place.result) in
    let next = items-next session_json _ _ c.loop-place.place _ _ c.index-a-place.result c.index-b-place.result _ c.loop-place-test.true c.if-place-b.true
    c.index-a-place.is c.index-b-place.is c.end_at.ensures c.end_at-in-loop-place.ensures both in
    items-found session_json session_code _ _ c.loop-place.place _ _ c.loop-place.invariant.2 next (sym c.is_ne.ensures ∙ c.if-is_ne.true)

-- what ties is passed
pub loop-place-preserved : goal.loop-place-preserved
loop-place-preserved c =
    let told : c.session_order-order.result
    ≡ bytes_cmp (session_json c.index-a-place.result) (session_json c.index-b-place.result) = c.session_order-order.ensures
    ∙ (λ i. bytes_cmp (session_json (c.events.ensures i)) (session_json (c.events-in-loop-place.ensures i))) in
    let both = c.then-order.ensures ∙ (λ i. ordering_then (told i) (c.cmp.ensures i))
    ∙ sym (closed-ended session_json session_closed c.index-a-place.result c.index-b-place.result c.end_at.result c.end_at-in-loop-place.result) in
    let next = items-next session_json _ _ c.loop-place.place _ _ c.index-a-place.result c.index-b-place.result _ c.loop-place-test.true c.if-place-b.true
    c.index-a-place.is c.index-b-place.is c.end_at.ensures c.end_at-in-loop-place.ensures both in
    (omega arith, omega arith, items-passed _ _ _ _ c.loop-place.invariant.2 next (sym c.is_ne.ensures ∙ c.if-is_ne.false))

-- the shorter list comes last
pub returns : goal.returns
returns c =
    let stop : (length c.args.a.now ≤ c.loop-place.place) ⊎ (length c.args.b.now ≤ c.loop-place.place) =
    elim c.loop-place-test.branch [ then-loop-place-test+else-place-b w ↦ inr (omega arith) | else-loop-place-test w ↦ inl (omega arith) ] in
    c.cmp-2.ensures ∙ items-ends session_json session_code _ _ c.loop-place.place c.loop-place.invariant.0 c.loop-place.invariant.1 stop
    c.loop-place.invariant.2
