use Rattle.std.proofs.Common.{◌≡◌, inl, inr, ◌⊎◌, ◌∙◌, ◌<◌, ap, min, length, subst, arith}
use Rattle.std.specs.Prelude.{All, IsTrue, nat_lt}
use Rattle.std.proofs.lemmas.Bool.{ltb-true, lt-ltb}
use Rattle.book_format.specs.BookText.{total_of}
use Rattle.book_format.specs.Laws.{RunFits}
use Rattle.book_format.specs.Pieces.{text_in}
use Rattle.book_format.proofs.LengthLemmas.{over-capped, over-whole}
use Rattle.book_format.proofs.pieces.are_too_large.Goals as goal

-- the text is too long
pub returns-then-text_len-gt-MAX_TEXT-clause-large : goal.returns-then-text_len-gt-MAX_TEXT-clause-large
returns-then-text_len-gt-MAX_TEXT-clause-large c = (
  λ t. inl (over-capped 268435456 18446744073709551615 _ _
      (omega arith) c.text_len.ensures c.if-text_len-gt-MAX_TEXT.true),
  λ h. lt-ltb _ _ c.if-text_len-gt-MAX_TEXT.true,
)

-- it is not, and the facts are counted
pub returns-else-text_len-gt-MAX_TEXT-clause-large : goal.returns-else-text_len-gt-MAX_TEXT-clause-large
returns-else-text_len-gt-MAX_TEXT-clause-large c =
    (λ t. inr (over-capped 30000000 18446744073709551615 _ _ (omega arith) counted (ltb-true _ _ t)), λ h. from h)
  where
    counted : c.facts_in.result ≡ min (total_of c.args.pieces.now.runs.items) 18446744073709551615
    counted = c.facts_in.ensures.facts ∙ ap (λ rs. min (total_of rs) 18446744073709551615) c.as_slice.ensures.value

    from : (268435456 < length (text_in c.args.pieces.now)) ⊎ (30000000 < total_of c.args.pieces.now.runs.items) → IsTrue (nat_lt 30000000 c.facts_in.result)
    from (inl long) =
        let over = over-whole 268435456 18446744073709551615 _ _ (omega arith) c.text_len.ensures long in
        let low = c.if-text_len-gt-MAX_TEXT.false in
        absurd (omega (arith, over, low))
    from (inr many) = lt-ltb _ _ (over-whole 30000000 18446744073709551615 _ _ (omega arith) counted many)

-- the facts are counted, so that each run was looked at
pub returns-else-text_len-gt-MAX_TEXT-clause-widths : goal.returns-else-text_len-gt-MAX_TEXT-clause-widths
returns-else-text_len-gt-MAX_TEXT-clause-widths c = λ few. subst (All RunFits) c.as_slice.ensures.value c.facts_in.ensures.fit
