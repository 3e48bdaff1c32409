-- What stands at the places of a list.
use Rattle.std.proofs.Common.{◌≡◌, ◌≢◌, sym, ap, ◌∙◌, ℕ, ◌<◌, ◌≤◌, List, [], ◌∷◌, ◌++◌, length, length-append, length-set, set, slice_get, Some}
use Rattle.std.proofs.Common.{◌⊎◌, inl, inr, ⊎_elim, arith, get_or-set_same, get_or-set_other}
use Rattle.std.proofs.lemmas.Option.{slice_get_within, slice_get_past, slice_get-get_or, get_or_from_slice_get}
use Rattle.std.proofs.Math.ListN.{get_or-append}
use Rattle.std.proofs.Math.Seq.{get_or-append_seam}

module _ {A : Type 0} where
  pub inside-at : (xs : List A) (n : ℕ) (a : A) → slice_get xs n ≡ Some a → n < length xs
  inside-at xs n a e = slice_get_within xs n a e

  pub same-at : (xs : List A) (n : ℕ) (a b : A) → slice_get xs n ≡ Some a → slice_get xs n ≡ Some b → a ≡ b
  same-at xs n a b e f = let h : Some a ≡ Some b = sym e ∙ f in cc

  -- what stands in front stays where it is
  pub more-left : (xs ys : List A) (n : ℕ) (a : A) → slice_get xs n ≡ Some a → slice_get (xs ++ ys) n ≡ Some a
  more-left xs ys n a e =
      let lt = slice_get_within xs n a e in
      slice_get-get_or (xs ++ ys) n a (omega (arith, lt, length-append xs ys))
      ∙ ap Some (get_or-append xs ys a n lt ∙ get_or_from_slice_get xs n a a e)

  pub at-last : (xs : List A) (a : A) → slice_get (xs ++ a ∷ []) (length xs) ≡ Some a
  at-last xs a =
      slice_get-get_or (xs ++ a ∷ []) (length xs) a (omega (arith, length-append xs (a ∷ []))) ∙ ap Some (get_or-append_seam xs a [] a)

  -- with one more behind: what stands at a place stood there before, or is the last one
  pub parts-at : (xs : List A) (b : A) (n : ℕ) (a : A) → slice_get (xs ++ b ∷ []) n ≡ Some a
      → (slice_get xs n ≡ Some a) ⊎ ((n ≡ length xs) × (a ≡ b))
  parts-at xs b n a e =
      let lt = slice_get_within (xs ++ b ∷ []) n a e in
      let cases : (n < length xs) ⊎ (n ≡ length xs) = grind (arith, lt, length-append xs (b ∷ [])) in
      ⊎_elim
      (λ l. inl (slice_get-get_or xs n a l ∙ ap Some (sym (get_or-append xs (b ∷ []) a n l) ∙ get_or_from_slice_get (xs ++ b ∷ []) n a a e)))
      (λ is. inr (is, same-at (xs ++ b ∷ []) n a b e (ap (slice_get (xs ++ b ∷ [])) is ∙ at-last xs b))) cases

  pub set-at : (xs : List A) (i : ℕ) (a : A) → i < length xs → slice_get (set xs i a) i ≡ Some a
  set-at xs i a lt =
      slice_get-get_or (set xs i a) i a (omega (arith, lt, length-set xs i a)) ∙ ap Some (get_or-set_same xs i a a lt)

  pub set-else : (xs : List A) (i j : ℕ) (a : A) → j ≢ i → slice_get (set xs i a) j ≡ slice_get xs j
  set-else xs i j a ne =
      let cases : (j < length xs) ⊎ (length xs ≤ j) = grind arith in
      ⊎_elim
      (λ lt. slice_get-get_or (set xs i a) j a (omega (arith, lt, length-set xs i a)) ∙ ap Some (get_or-set_other xs i j a a ne)
      ∙ sym (slice_get-get_or xs j a lt))
      (λ le. slice_get_past (set xs i a) j (omega (arith, le, length-set xs i a)) ∙ sym (slice_get_past xs j le)) cases
