use Rattle.std.proofs.Common.{sym, ap, ◌∙◌, subst, inl}
use Rattle.std.proofs.lemmas.List.Sorted.{list_any-IsPermutation}
use Rattle.std.specs.List.{list_any}
use Rattle.fact_books.specs.Runs.{has, AllSound}
use Rattle.book_format.specs.Canonical.{IsTagSorted}
use Rattle.book_format.proofs.CanonicalLemmas.{sound-moved}
use Rattle.book_format.proofs.canonical.sorted_and_joined.Goals as goal

pub longest-requires-clause-order : goal.longest-requires-clause-order
longest-requires-clause-order c = inl (subst IsTagSorted (sym c.as_slice.ensures.value) c.in_ok-sorted.ensures.sorted)

pub longest-requires-clause-sound : goal.longest-requires-clause-sound
longest-requires-clause-sound c =
    (c.requires.0, subst (AllSound c.requires.0) (sym c.as_slice.ensures.value) (sound-moved c.requires.0 _ _ c.requires.1 c.in_ok-sorted.ensures.same))

pub in_order-requires-clause-apart : goal.in_order-requires-clause-apart
in_order-requires-clause-apart c = c.in_ok-joined.ensures.apart (subst IsTagSorted (sym c.as_slice.ensures.value) c.in_ok-sorted.ensures.sorted)

pub in_order-requires-clause-sound : goal.in_order-requires-clause-sound
in_order-requires-clause-sound c = (
  c.requires.0,
  c.in_ok-joined.ensures.sound c.requires.0
      (subst (AllSound c.requires.0) (sym c.as_slice.ensures.value) (sound-moved c.requires.0 _ _ c.requires.1 c.in_ok-sorted.ensures.same)),
)

pub returns-clause-facts : goal.returns-clause-facts
returns-clause-facts c = λ t e.
    c.in_order.ensures.facts t e ∙ c.in_ok-joined.ensures.facts t e ∙ ap (list_any (has t e)) c.as_slice.ensures.value
    ∙ sym (list_any-IsPermutation (has t e) _ _ c.in_ok-sorted.ensures.same)

pub returns-clause-sound : goal.returns-clause-sound
returns-clause-sound c = λ n a.
    c.in_order.ensures.sound n (c.in_ok-joined.ensures.sound n
    (subst (AllSound n) (sym c.as_slice.ensures.value) (sound-moved n _ _ a c.in_ok-sorted.ensures.same)))
