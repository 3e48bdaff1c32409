-- Numbers of ranks add up, where of no rank both is so.
use Rattle.std.proofs.Common.{◌≡◌, refl, ap, ◌∙◌, ℕ, suc, ◌+◌, ◌≤◌, Bool, true, false, nat_lt, cond, List, [], ◌∷◌, length, map, ◌⊎◌, inl, inr, ⊎_elim, arith}
use Rattle.std.proofs.lemmas.Bool.{ltb-true, ltb-false}
use Rattle.lock_queues.specs.Reasons.{Among}
use Rattle.order_classes.specs.Numbers.{RiseFrom}
use Rattle.order_classes.specs.Numbers.{IsNumberOf}

-- ---- one rank more

abbrev put : ℕ → List ℕ → List ℕ
put x [] = x ∷ []
put x (y ∷ ys) = cond (nat_lt x y) (x ∷ y ∷ ys) (y ∷ put x ys)

put-length : (x : ℕ) (ys : List ℕ) → length (put x ys) ≡ suc (length ys)
put-length x [] = refl
put-length x (y ∷ ys) = at (nat_lt x y) (put-length x ys)
  where
    at : (b : Bool) → length (put x ys) ≡ suc (length ys) → length (cond b (x ∷ y ∷ ys) (y ∷ put x ys)) ≡ suc (suc (length ys))
    at true rec = refl
    at false rec = ap suc rec

put-rise : (low x : ℕ) (ys : List ℕ) → low ≤ x → RiseFrom low ys → (Among x ys → ⊥) → RiseFrom low (put x ys)
put-rise low x [] le rise out = (le, tt)
put-rise low x (y ∷ ys) le rise out = at (nat_lt x y) refl (λ l. put-rise (suc y) x ys l rise.1 (λ m. out (inr m)))
  where
    at : (b : Bool) → nat_lt x y ≡ b → (suc y ≤ x → RiseFrom (suc y) (put x ys)) → RiseFrom low (cond b (x ∷ y ∷ ys) (y ∷ put x ys))
    at true is rest = (let lt = ltb-true x y is in (le, (omega (arith, lt), rise.1)))
    at false is rest =
        let from : y ≤ x = ltb-false x y is in
        let cases : (x ≡ y) ⊎ (suc y ≤ x) = grind (arith, from) in
        (rise.0, rest (⊎_elim (λ e. absurd (out (inl e))) (λ l. l) cases))

put-in : (x r : ℕ) (ys : List ℕ) → Among r (put x ys) → (r ≡ x) ⊎ Among r ys
put-in x r [] m = m
put-in x r (y ∷ ys) m = at (nat_lt x y) (put-in x r ys) m
  where
    at : (b : Bool) → (Among r (put x ys) → (r ≡ x) ⊎ Among r ys) → Among r (cond b (x ∷ y ∷ ys) (y ∷ put x ys)) → (r ≡ x) ⊎ Among r (y ∷ ys)
    at true rec m = m
    at false rec (inl e) = inr (inl e)
    at false rec (inr m) = ⊎_elim (λ e. inl e) (λ n. inr (inr n)) (rec m)

in-put : (x r : ℕ) (ys : List ℕ) → (r ≡ x) ⊎ Among r ys → Among r (put x ys)
in-put x r [] m = m
in-put x r (y ∷ ys) m = at (nat_lt x y) (in-put x r ys) m
  where
    at : (b : Bool) → ((r ≡ x) ⊎ Among r ys → Among r (put x ys)) → (r ≡ x) ⊎ Among r (y ∷ ys) → Among r (cond b (x ∷ y ∷ ys) (y ∷ put x ys))
    at true rec m = m
    at false rec (inl e) = inr (rec (inl e))
    at false rec (inr (inl e)) = inl e
    at false rec (inr (inr m)) = inr (rec (inr m))

-- ---- those of two lists

abbrev merged : List ℕ → List ℕ → List ℕ
merged [] ys = ys
merged (x ∷ xs) ys = put x (merged xs ys)

merged-length : (xs ys : List ℕ) → length (merged xs ys) ≡ length xs + length ys
merged-length [] ys = (let goal : length ys ≡ 0 + length ys = omega arith in goal)
merged-length (x ∷ xs) ys =
    let rec = merged-length xs ys in
    let more = put-length x (merged xs ys) in
    omega (arith, rec, more)

merged-in : (xs ys : List ℕ) (r : ℕ) → Among r (merged xs ys) → Among r xs ⊎ Among r ys
merged-in [] ys r m = inr m
merged-in (x ∷ xs) ys r m =
    ⊎_elim (λ e. inl (inl e)) (λ n. ⊎_elim (λ a. inl (inr a)) (λ b. inr b) (merged-in xs ys r n)) (put-in x r (merged xs ys) m)

in-merged : (xs ys : List ℕ) (r : ℕ) → Among r xs ⊎ Among r ys → Among r (merged xs ys)
in-merged [] ys r (inl m) = absurd m
in-merged [] ys r (inr m) = m
in-merged (x ∷ xs) ys r (inl (inl e)) = in-put x r (merged xs ys) (inl e)
in-merged (x ∷ xs) ys r (inl (inr m)) = in-put x r (merged xs ys) (inr (in-merged xs ys r (inl m)))
in-merged (x ∷ xs) ys r (inr m) = in-put x r (merged xs ys) (inr (in-merged xs ys r (inr m)))

rise-least : (low r : ℕ) (rs : List ℕ) → RiseFrom low rs → Among r rs → low ≤ r
rise-least low r [] rise m = absurd m
rise-least low r (x ∷ xs) rise (inl e) = (let le : low ≤ x = rise.0 in omega (arith, le, e))
rise-least low r (x ∷ xs) rise (inr m) =
    let le : low ≤ x = rise.0 in
    let rec : suc x ≤ r = rise-least (suc x) r xs rise.1 m in
    omega (arith, le, rec)

-- what is in a list whose numbers rise has none below the first
pub behind : {A : Type 0} (f : A → ℕ) (low : ℕ) (xs : List A) (x : A) → RiseFrom low (map f xs) → Among x xs → low ≤ f x
behind {A = A} f low xs x rise m = rise-least low (f x) (map f xs) rise (among-map xs m)
  where
    among-map : (ys : List A) → Among x ys → Among (f x) (map f ys)
    among-map [] n = absurd n
    among-map (y ∷ ys) (inl e) = inl (ap f e)
    among-map (y ∷ ys) (inr n) = inr (among-map ys n)

merged-rise : (low from : ℕ) (xs ys : List ℕ) → low ≤ from → RiseFrom from xs → RiseFrom low ys → ((r : ℕ) → Among r xs → Among r ys → ⊥)
    → RiseFrom low (merged xs ys)
merged-rise low from [] ys le rise above apart = above
merged-rise low from (x ∷ xs) ys le rise above apart =
    let first : from ≤ x = rise.0 in
    put-rise low x (merged xs ys) (omega (arith, le, first))
    (merged-rise low (suc x) xs ys (omega (arith, le, first)) rise.1 above (λ r m n. apart r (inr m) n))
    (λ m. ⊎_elim
    (λ n. (let bad : suc x ≤ x = rise-least (suc x) x xs rise.1 n in omega (arith, bad)))
    (λ n. apart x (inl refl) n) (merged-in xs ys x m))

-- ---- numbers

module _ (P Q : ℕ → Type 0) where
  pub number-same : (n : ℕ) → ((r : ℕ) → P r → Q r) → ((r : ℕ) → Q r → P r) → IsNumberOf P n → IsNumberOf Q n
  number-same n f g is = record {
    ranks = is.ranks;
    rise = is.rise;
    has = λ r. (λ m. f r ((is.has r).0 m), λ q. (is.has r).1 (g r q));
    count = is.count;
  }

  pub number-sum : (n m : ℕ) → IsNumberOf P n → IsNumberOf Q m → ((r : ℕ) → P r → Q r → ⊥) → IsNumberOf (λ r. P r ⊎ Q r) (n + m)
  number-sum n m is js apart = record {
    ranks = merged is.ranks js.ranks;
    rise = merged-rise 0 0 is.ranks js.ranks (omega arith) is.rise js.rise (λ r a b. apart r ((is.has r).0 a) ((js.has r).0 b));
    has = λ r. (
      λ a. ⊎_elim (λ b. inl ((is.has r).0 b)) (λ b. inr ((js.has r).0 b)) (merged-in is.ranks js.ranks r a),
      λ p. in-merged is.ranks js.ranks r (⊎_elim (λ q. inl ((is.has r).1 q)) (λ q. inr ((js.has r).1 q)) p),
    );
    count = merged-length is.ranks js.ranks ∙ (λ i. is.count i + js.count i);
  }

pub number-none : (P : ℕ → Type 0) → ((r : ℕ) → P r → ⊥) → IsNumberOf P 0
number-none P none = record { ranks = []; rise = tt; has = λ r. (λ m. absurd m, λ p. absurd (none r p)); count = refl }

-- the numbers of a list in which none is there twice
abbrev sorted : List ℕ → List ℕ
sorted [] = []
sorted (x ∷ xs) = put x (sorted xs)

sorted-in : (xs : List ℕ) (r : ℕ) → Among r (sorted xs) → Among r xs
sorted-in [] r m = m
sorted-in (x ∷ xs) r m = ⊎_elim (λ e. inl e) (λ n. inr (sorted-in xs r n)) (put-in x r (sorted xs) m)

in-sorted : (xs : List ℕ) (r : ℕ) → Among r xs → Among r (sorted xs)
in-sorted [] r m = m
in-sorted (x ∷ xs) r (inl e) = in-put x r (sorted xs) (inl e)
in-sorted (x ∷ xs) r (inr m) = in-put x r (sorted xs) (inr (in-sorted xs r m))

sorted-length : (xs : List ℕ) → length (sorted xs) ≡ length xs
sorted-length [] = refl
sorted-length (x ∷ xs) = put-length x (sorted xs) ∙ ap suc (sorted-length xs)

abbrev pub AreOnce : List ℕ → Type 0
AreOnce [] = Unit {0}
AreOnce (x ∷ xs) = (Among x xs → ⊥) × AreOnce xs

sorted-rise : (xs : List ℕ) → AreOnce xs → RiseFrom 0 (sorted xs)
sorted-rise [] once = tt
sorted-rise (x ∷ xs) once = put-rise 0 x (sorted xs) (omega arith) (sorted-rise xs once.1) (λ m. once.0 (sorted-in xs x m))

pub number-list : (xs : List ℕ) → AreOnce xs → IsNumberOf (λ r. Among r xs) (length xs)
number-list xs once = record { ranks = sorted xs; rise = sorted-rise xs once; has = λ r. (sorted-in xs r, in-sorted xs r); count = sorted-length xs }
