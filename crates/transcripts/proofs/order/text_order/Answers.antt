use Rattle.std.proofs.Common.{◌≤◌, sym, ap, ◌∙◌, length, refl, arith}
use Rattle.std.specs.Ordering.{nat_cmp, is_ne}
use Rattle.transcripts.proofs.SideBySide.{found, items-passed, texts-next, texts-ended, texts-longer, texts-both, texts-told}
use Rattle.transcripts.proofs.order.text_order.Goals as goal
use Rattle.transcripts.proofs.order.text_order.Goals.{then-loop-place-test+else-place-b, else-loop-place-test}

-- what differs decides
pub returns-then-is_ne : goal.returns-then-is_ne
returns-then-is_ne c =
    let next = c.loop-place.invariant.2 ∙ texts-next _ _ c.loop-place.place c.loop-place-test.true c.if-place-b.true
    ∙ found _ _ (ap is_ne (sym c.byte_order-order.ensures) ∙ sym c.is_ne.ensures ∙ c.if-is_ne.true) in
    texts-told _ _ _ _ _ _ c.as_bytes-a.ensures.value c.as_bytes-b.ensures.value c.byte_order-order.ensures next

-- what ties is passed
pub loop-place-preserved : goal.loop-place-preserved
loop-place-preserved c = (
  omega arith,
  omega arith,
  items-passed _ _ _ _ c.loop-place.invariant.2 (texts-next _ _ c.loop-place.place c.loop-place-test.true c.if-place-b.true)
      (ap is_ne (sym c.byte_order-order.ensures) ∙ sym c.is_ne.ensures ∙ c.if-is_ne.false),
)

-- the first text has ended
pub returns-then-place-b-2 : goal.returns-then-place-b-2
returns-then-place-b-2 c =
    let past : length c.as_bytes-a.result.now ≤ c.loop-place.place =
    elim c.loop-place-test.branch [ then-loop-place-test+else-place-b w ↦ omega arith | else-loop-place-test w ↦ omega arith ] in
    texts-told _ _ _ _ _ _ c.as_bytes-a.ensures.value c.as_bytes-b.ensures.value (c.cmp.ensures ∙ ap (nat_cmp 34) c.first_written.ensures)
    (c.loop-place.invariant.2 ∙ texts-ended _ _ c.loop-place.place past c.if-place-b-2.true)

-- the second has
pub returns-then-place-a : goal.returns-then-place-a
returns-then-place-a c =
    texts-told _ _ _ _ _ _ c.as_bytes-a.ensures.value c.as_bytes-b.ensures.value (c.cmp-then-place-a.ensures
    ∙ ap (λ n. nat_cmp n 34) c.first_written-then-place-a.ensures)
    (c.loop-place.invariant.2 ∙ texts-longer _ _ c.loop-place.place c.if-place-a.true c.if-place-b-2.false)

-- both have
pub returns : goal.returns
returns c =
    texts-told _ _ _ _ _ _ c.as_bytes-a.ensures.value c.as_bytes-b.ensures.value refl
    (c.loop-place.invariant.2 ∙ texts-both _ _ c.loop-place.place c.if-place-a.false c.if-place-b-2.false)
