-- A sort by what runs say.
use Rattle.std.proofs.Common.{◌≡◌, refl, ap, subst, ◌≤◌, false, List, get_or, inl, inr, ◌⊎◌, arith}
use Rattle.std.proofs.lemmas.List.Sorted.{sorted_far, ranks_by}
use Rattle.std.specs.List.Sorted.{IsSorted}
use Rattle.std.specs.Ordering.{is_lt, nat_cmp, ordering_then}
use Rattle.std.specs.declared.cmp.Ordering.{Ordering}
use Rattle.std.specs.declared.cmp.Ordering.TheVariants.{Less, Equal, Greater}
use Rattle.std.specs.FinMap.{nat_cmp-IsAntisymmetric}
use Rattle.fact_books.specs.declared.run.Run.{Run}
use Rattle.book_format.specs.Forms.{tag_kind, tag_number}
use Rattle.book_format.specs.Canonical.{IsTagLe, IsTagSorted, tag_cmp, tag_total}
use Rattle.book_format.proofs.CanonicalLemmas.{cases-of, less-lt}

-- the second rank of an order decides where the first ties
tag-le : (x y : Run) → (tag_cmp x y ≡ Less) ⊎ (tag_cmp x y ≡ Equal) → IsTagLe x y
tag-le x y h = kinds (nat_cmp (tag_kind x.tag) (tag_kind y.tag)) refl (not-greater h)
  where
    not-greater : (tag_cmp x y ≡ Less) ⊎ (tag_cmp x y ≡ Equal) → tag_cmp x y ≡ Greater → ⊥
    not-greater (inl e) g = cc
    not-greater (inr e) g = cc

    firsts : (o : Ordering) → nat_cmp x.first y.first ≡ o → (o ≡ Greater → ⊥) → x.first ≤ y.first
    firsts Less e n = let lt = less-lt x.first y.first e in omega (arith, lt)
    firsts Equal e n = let is = nat_cmp-IsAntisymmetric x.first y.first e in omega (arith, is)
    firsts Greater e n = absurd (n refl)

    numbers : (o : Ordering) → nat_cmp (tag_number x.tag) (tag_number y.tag) ≡ o → tag_kind x.tag ≡ tag_kind y.tag
        → (ordering_then o (nat_cmp x.first y.first) ≡ Greater → ⊥) → IsTagLe x y
    numbers Less e k n =
        let lt = less-lt (tag_number x.tag) (tag_number y.tag) e in
        record {
          kinds = omega (arith, k);
          numbers = λ _. omega (arith, lt);
          firsts = λ t. let same : tag_number x.tag ≡ tag_number y.tag = ap tag_number t in absurd (omega (arith, lt, same));
        }
    numbers Equal e k n =
        let is = nat_cmp-IsAntisymmetric (tag_number x.tag) (tag_number y.tag) e in
        record { kinds = omega (arith, k); numbers = λ _. omega (arith, is); firsts = λ t. firsts (nat_cmp x.first y.first) refl n }
    numbers Greater e k n = absurd (n refl)

    kinds : (o : Ordering) → nat_cmp (tag_kind x.tag) (tag_kind y.tag) ≡ o
        → (ordering_then o (ordering_then (nat_cmp (tag_number x.tag) (tag_number y.tag)) (nat_cmp x.first y.first)) ≡ Greater → ⊥) → IsTagLe x y
    kinds Less e n =
        let lt = less-lt (tag_kind x.tag) (tag_kind y.tag) e in
        record {
          kinds = omega (arith, lt);
          numbers = λ k. absurd (omega (arith, lt, k));
          firsts = λ t. let same : tag_kind x.tag ≡ tag_kind y.tag = ap tag_kind t in absurd (omega (arith, lt, same));
        }
    kinds Equal e n = numbers (nat_cmp (tag_number x.tag) (tag_number y.tag)) refl (nat_cmp-IsAntisymmetric (tag_kind x.tag) (tag_kind y.tag) e) n
    kinds Greater e n = absurd (n refl)

pub sorted-by_tag : (runs : List Run) → IsSorted tag_cmp runs → IsTagSorted runs
sorted-by_tag runs sorted i j d l m =
    let far = sorted_far (λ a b. is_lt (tag_cmp a b)) (ranks_by tag_total (λ (r : Run). r)) runs sorted i j d l m in
    tag-le (get_or runs i d) (get_or runs j d)
    (cases-of (tag_cmp (get_or runs i d) (get_or runs j d)) (subst (λ o. is_lt o ≡ false) (tag_total.antisymm (get_or runs j d) (get_or runs i d)) far))
