-- What stands at the places of a list.
use Rattle.std.proofs.Common.{◌≡◌, sym, ap, ◌∙◌, ℕ, zero, suc, ◌<◌, List, [], ◌∷◌, ◌++◌, length, length-append, slice_get, Some, ◌⊎◌, inl, inr, ⊎_elim, arith}
use Rattle.std.proofs.lemmas.Option.{slice_get_within, slice_get-get_or, get_or_from_slice_get}
use Rattle.std.proofs.Math.ListN.{get_or-append}
use Rattle.std.proofs.Math.Seq.{get_or-append_seam}
use Rattle.lock_queues.specs.Reasons.{Among}

module _ {A : Type 0} where
  pub one-at : (xs : List A) (n : ℕ) (a b : A) → slice_get xs n ≡ Some a → slice_get xs n ≡ Some b → a ≡ b
  one-at xs n a b e f = let h : Some a ≡ Some b = sym e ∙ f in cc

  -- what stands in front stays where it is
  pub more-left : (xs ys : List A) (n : ℕ) (a : A) → slice_get xs n ≡ Some a → slice_get (xs ++ ys) n ≡ Some a
  more-left xs ys n a e =
      let lt = slice_get_within xs n a e in
      slice_get-get_or (xs ++ ys) n a (omega (arith, lt, length-append xs ys))
      ∙ ap Some (get_or-append xs ys a n lt ∙ get_or_from_slice_get xs n a a e)

  pub at-last : (xs : List A) (a : A) → slice_get (xs ++ a ∷ []) (length xs) ≡ Some a
  at-last xs a =
      slice_get-get_or (xs ++ a ∷ []) (length xs) a (omega (arith, length-append xs (a ∷ []))) ∙ ap Some (get_or-append_seam xs a [] a)

  -- with one more behind: what stands at a place stood there before, or is the last one
  pub parts-at : (xs : List A) (b : A) (n : ℕ) (a : A) → slice_get (xs ++ b ∷ []) n ≡ Some a
      → (slice_get xs n ≡ Some a) ⊎ ((n ≡ length xs) × (a ≡ b))
  parts-at xs b n a e =
      let lt = slice_get_within (xs ++ b ∷ []) n a e in
      let cases : (n < length xs) ⊎ (n ≡ length xs) = grind (arith, lt, length-append xs (b ∷ [])) in
      ⊎_elim
      (λ l. inl (slice_get-get_or xs n a l ∙ ap Some (sym (get_or-append xs (b ∷ []) a n l) ∙ get_or_from_slice_get (xs ++ b ∷ []) n a a e)))
      (λ is. inr (is, one-at (xs ++ b ∷ []) n a b e (ap (slice_get (xs ++ b ∷ [])) is ∙ at-last xs b))) cases

  -- what stands in a list has a place, and what has a place stands in it
  pub among-at : (xs : List A) (a : A) → Among a xs → (n : ℕ) × (slice_get xs n ≡ Some a)
  among-at [] a m = absurd m
  among-at (x ∷ xs) a (inl e) = (0, ap Some (sym e))
  among-at (x ∷ xs) a (inr m) = let r = among-at xs a m in (suc r.0, r.1)

  pub at-among : (xs : List A) (n : ℕ) (a : A) → slice_get xs n ≡ Some a → Among a xs
  at-among [] n a e = absurd (let lt = slice_get_within [] n a e in omega (arith, lt))
  at-among (x ∷ xs) zero a e = inl (let h : Some x ≡ Some a = e in cc)
  at-among (x ∷ xs) (suc n) a e = inr (at-among xs n a e)
