-- What stands at the places of lists.
use Rattle.std.proofs.Common.{◌≡◌, refl, sym, ap, ◌∙◌, ℕ, zero, suc, ◌<◌, ◌≤◌, List, [], ◌∷◌, ◌++◌, length, set, slice_get, take, Some, None, ◌⊎◌, inl, inr, ⊎_elim, arith}
use Rattle.lock_queues.specs.Reasons.{Among}

module _ {A : Type 0} where
  pub one-at : (xs : List A) (n : ℕ) (a b : A) → slice_get xs n ≡ Some a → slice_get xs n ≡ Some b → a ≡ b
  one-at xs n a b e f = let h : Some a ≡ Some b = sym e ∙ f in cc

  pub inside-at : (xs : List A) (n : ℕ) (a : A) → slice_get xs n ≡ Some a → n < length xs
  inside-at [] n a e = absurd (let h : None ≡ Some a = e in cc)
  inside-at (x ∷ xs) zero a e = omega arith
  inside-at (x ∷ xs) (suc n) a e = let rec = inside-at xs n a e in omega (arith, rec)

  pub at-inside : (xs : List A) (n : ℕ) → n < length xs → (a : A) × (slice_get xs n ≡ Some a)
  at-inside [] n lt = absurd (omega (arith, lt))
  at-inside (x ∷ xs) zero lt = (x, refl)
  at-inside (x ∷ xs) (suc n) lt = at-inside xs n (omega (arith, lt))

  -- what stands in a list with one put in its place
  pub set-parts : (xs : List A) (i : ℕ) (y : A) (n : ℕ) (a : A) → slice_get (set xs i y) n ≡ Some a
      → ((n ≡ i) × (a ≡ y)) ⊎ (((n ≡ i) → ⊥) × (slice_get xs n ≡ Some a))
  set-parts [] i y n a e = absurd (let h : None ≡ Some a = e in cc)
  set-parts (x ∷ xs) zero y zero a e = inl (refl, (let h : Some y ≡ Some a = e in cc))
  set-parts (x ∷ xs) zero y (suc n) a e = inr ((λ h. omega (arith, h)), e)
  set-parts (x ∷ xs) (suc i) y zero a e = inr ((λ h. omega (arith, h)), e)
  set-parts (x ∷ xs) (suc i) y (suc n) a e =
      ⊎_elim (λ h. inl (ap suc h.0, h.1)) (λ h. inr ((λ k. h.0 (omega (arith, k))), h.1)) (set-parts xs i y n a e)

  pub set-here : (xs : List A) (i : ℕ) (y : A) → i < length xs → slice_get (set xs i y) i ≡ Some y
  set-here [] i y lt = absurd (omega (arith, lt))
  set-here (x ∷ xs) zero y lt = refl
  set-here (x ∷ xs) (suc i) y lt = set-here xs i y (omega (arith, lt))

  pub set-there : (xs : List A) (i : ℕ) (y : A) (n : ℕ) (a : A) → ((n ≡ i) → ⊥) → slice_get xs n ≡ Some a → slice_get (set xs i y) n ≡ Some a
  set-there [] i y n a ne e = absurd (let h : None ≡ Some a = e in cc)
  set-there (x ∷ xs) zero y zero a ne e = absurd (ne refl)
  set-there (x ∷ xs) zero y (suc n) a ne e = e
  set-there (x ∷ xs) (suc i) y zero a ne e = e
  set-there (x ∷ xs) (suc i) y (suc n) a ne e = set-there xs i y n a (λ k. ne (ap suc k)) e

  pub set-long : (xs : List A) (i : ℕ) (y : A) → length (set xs i y) ≡ length xs
  set-long [] i y = refl
  set-long (x ∷ xs) zero y = refl
  set-long (x ∷ xs) (suc i) y = ap suc (set-long xs i y)

  -- and in one with one more behind
  pub push-parts : (xs : List A) (y : A) (n : ℕ) (a : A) → slice_get (xs ++ y ∷ []) n ≡ Some a → (slice_get xs n ≡ Some a) ⊎ ((n ≡ length xs) × (a ≡ y))
  push-parts [] y zero a e = inr (refl, (let h : Some y ≡ Some a = e in cc))
  push-parts [] y (suc n) a e = absurd (let h : None ≡ Some a = e in cc)
  push-parts (x ∷ xs) y zero a e = inl e
  push-parts (x ∷ xs) y (suc n) a e = ⊎_elim (λ h. inl h) (λ h. inr (ap suc h.0, h.1)) (push-parts xs y n a e)

  pub push-left : (xs ys : List A) (n : ℕ) (a : A) → slice_get xs n ≡ Some a → slice_get (xs ++ ys) n ≡ Some a
  push-left [] ys n a e = absurd (let h : None ≡ Some a = e in cc)
  push-left (x ∷ xs) ys zero a e = e
  push-left (x ∷ xs) ys (suc n) a e = push-left xs ys n a e

  pub push-here : (xs : List A) (y : A) → slice_get (xs ++ y ∷ []) (length xs) ≡ Some y
  push-here [] y = refl
  push-here (x ∷ xs) y = push-here xs y

  pub push-long : (xs : List A) (y : A) → length (xs ++ y ∷ []) ≡ suc (length xs)
  push-long [] y = refl
  push-long (x ∷ xs) y = ap suc (push-long xs y)

  -- the first so many and the one behind them
  pub take-parts : (xs : List A) (i : ℕ) (a b : A) → slice_get xs i ≡ Some a → Among b (take (suc i) xs) → Among b (take i xs) ⊎ (b ≡ a)
  take-parts [] i a b e m = absurd (let h : None ≡ Some a = e in cc)
  take-parts (x ∷ xs) zero a b e (inl same) = inr (let h : Some x ≡ Some a = e in let k : x ≡ a = cc in same ∙ k)
  take-parts (x ∷ xs) zero a b e (inr m) = absurd m
  take-parts (x ∷ xs) (suc i) a b e (inl same) = inl (inl same)
  take-parts (x ∷ xs) (suc i) a b e (inr m) = ⊎_elim (λ h. inl (inr h)) (λ h. inr h) (take-parts xs i a b e m)

  pub take-old : (xs : List A) (i : ℕ) (b : A) → Among b (take i xs) → Among b (take (suc i) xs)
  take-old [] zero b m = absurd m
  take-old [] (suc i) b m = absurd m
  take-old (x ∷ xs) zero b m = absurd m
  take-old (x ∷ xs) (suc i) b (inl same) = inl same
  take-old (x ∷ xs) (suc i) b (inr m) = inr (take-old xs i b m)

  pub take-new : (xs : List A) (i : ℕ) (a : A) → slice_get xs i ≡ Some a → Among a (take (suc i) xs)
  take-new [] i a e = absurd (let h : None ≡ Some a = e in cc)
  take-new (x ∷ xs) zero a e = inl (let h : Some x ≡ Some a = e in cc)
  take-new (x ∷ xs) (suc i) a e = inr (take-new xs i a e)

  pub take-all : (xs : List A) (i : ℕ) → length xs ≤ i → take i xs ≡ xs
  take-all [] zero le = refl
  take-all [] (suc i) le = refl
  take-all (x ∷ xs) zero le = absurd (omega (arith, le))
  take-all (x ∷ xs) (suc i) le = ap (λ ys. x ∷ ys) (take-all xs i (omega (arith, le)))
