-- How far two lists are alike.
use Rattle.std.proofs.Common.{◌≡◌, ◌≢◌, refl, sym, ap, ◌∙◌, subst, ℕ, zero, suc, ◌+◌, ◌<◌, ◌≤◌, Bool, true, false, cond, ◌==◌, List, [], ◌∷◌, ◌++◌, length}
use Rattle.std.proofs.Common.{take, drop, get_or, add-one, arith, eq-eqb, eqb-true, ne_eqb}
use Rattle.std.proofs.lemmas.List.{drop_all}
use Rattle.known_worlds.specs.Fronts.{front}

front-cons : (x : ℕ) (xs ys : List ℕ) → front (x ∷ xs) (x ∷ ys) ≡ suc (front xs ys)
front-cons x xs ys = ap (λ b. cond b (suc (front xs ys)) 0) (eq-eqb x x refl)

pub front-apart : (x y : ℕ) (xs ys : List ℕ) → x ≢ y → front (x ∷ xs) (y ∷ ys) ≡ 0
front-apart x y xs ys ne = ap (λ b. cond b (suc (front xs ys)) 0) (ne_eqb x y ne)

-- what both lists begin with is alike
pub front-behind : (xs ys zs : List ℕ) → front (xs ++ ys) (xs ++ zs) ≡ length xs + front ys zs
front-behind [] ys zs = omega arith
front-behind (x ∷ xs) ys zs = (let one = front-cons x (xs ++ ys) (xs ++ zs) in let rest = front-behind xs ys zs in omega (arith, one, rest))

front-none : (xs : List ℕ) → front xs [] ≡ 0
front-none [] = refl
front-none (x ∷ xs) = refl

-- as many as this are alike, and then as many as what is left has
abbrev pub AlikeSoFar : List ℕ → List ℕ → ℕ → Type 0
AlikeSoFar xs ys n = front xs ys ≡ n + front (drop n xs) (drop n ys)

head-at : (xs : List ℕ) (n : ℕ) → n < length xs → drop n xs ≡ get_or xs n 0 ∷ drop (suc n) xs
head-at [] n lt = absurd (omega arith)
head-at (x ∷ xs) zero lt = refl
head-at (x ∷ xs) (suc n) lt = head-at xs n (omega arith)

pub alike-more : (xs ys : List ℕ) (n : ℕ) → n < length xs → n < length ys → get_or xs n 0 ≡ get_or ys n 0 → AlikeSoFar xs ys n → AlikeSoFar xs ys (n + 1)
alike-more xs ys n in_xs in_ys same so_far =
    let step : front (drop n xs) (drop n ys) ≡ suc (front (drop (suc n) xs) (drop (suc n) ys)) =
    (λ k. front (head-at xs n in_xs k) ((head-at ys n in_ys ∙ ap (λ z. z ∷ drop (suc n) ys) (sym same)) k))
    ∙ front-cons (get_or xs n 0) (drop (suc n) xs) (drop (suc n) ys) in
    let next : AlikeSoFar xs ys (suc n) = omega (arith, so_far, step) in
    subst (AlikeSoFar xs ys) (sym (add-one n)) next

pub alike-ends : (xs ys : List ℕ) (n : ℕ) → n < length xs → n < length ys → get_or xs n 0 ≢ get_or ys n 0 → AlikeSoFar xs ys n → n ≡ front xs ys
alike-ends xs ys n in_xs in_ys ne so_far =
    let step : front (drop n xs) (drop n ys) ≡ 0 = (λ k. front (head-at xs n in_xs k) (head-at ys n in_ys k))
    ∙ front-apart (get_or xs n 0) (get_or ys n 0) (drop (suc n) xs) (drop (suc n) ys) ne in
    omega (arith, so_far, step)

pub alike-old : (xs ys : List ℕ) (n : ℕ) → length xs ≤ n → AlikeSoFar xs ys n → n ≡ front xs ys
alike-old xs ys n le so_far = (let step : front (drop n xs) (drop n ys) ≡ 0 = ap (λ l. front l (drop n ys)) (drop_all n xs le) in omega (arith, so_far, step))

pub alike-new : (xs ys : List ℕ) (n : ℕ) → length ys ≤ n → AlikeSoFar xs ys n → n ≡ front xs ys
alike-new xs ys n le so_far =
    (let step : front (drop n xs) (drop n ys) ≡ 0 = ap (front (drop n xs)) (drop_all n ys le) ∙ front-none (drop n xs) in omega (arith, so_far, step))

pub front-old : (xs ys : List ℕ) → front xs ys ≤ length xs
front-old [] ys = omega arith
front-old (x ∷ xs) [] = omega arith
front-old (x ∷ xs) (y ∷ ys) = at (x == y) (front-old xs ys)
  where
    at : (b : Bool) → front xs ys ≤ length xs → cond b (suc (front xs ys)) 0 ≤ suc (length xs)
    at true le = omega (arith, le)
    at false le = omega arith

pub front-new : (xs ys : List ℕ) → front xs ys ≤ length ys
front-new [] ys = omega arith
front-new (x ∷ xs) [] = omega arith
front-new (x ∷ xs) (y ∷ ys) = at (x == y) (front-new xs ys)
  where
    at : (b : Bool) → front xs ys ≤ length ys → cond b (suc (front xs ys)) 0 ≤ suc (length ys)
    at true le = omega (arith, le)
    at false le = omega arith

-- what is alike is the same
pub front-same : (xs ys : List ℕ) → take (front xs ys) xs ≡ take (front xs ys) ys
front-same [] ys = refl
front-same (x ∷ xs) [] = refl
front-same (x ∷ xs) (y ∷ ys) = at (x == y) refl (front-same xs ys)
  where
    at : (b : Bool) → (x == y) ≡ b → take (front xs ys) xs ≡ take (front xs ys) ys
        → take (cond b (suc (front xs ys)) 0) (x ∷ xs) ≡ take (cond b (suc (front xs ys)) 0) (y ∷ ys)
    at true e rest = λ k. eqb-true x y e k ∷ rest k
    at false e rest = refl

-- ---- a number that is that of what is alike

pub few_old : (n : ℕ) (xs ys : List ℕ) → n ≡ front xs ys → n ≤ length xs
few_old n xs ys e = let le = front-old xs ys in omega (arith, e, le)

pub few_new : (n : ℕ) (xs ys : List ℕ) → n ≡ front xs ys → n ≤ length ys
few_new n xs ys e = let le = front-new xs ys in omega (arith, e, le)

pub same_front : (n : ℕ) (xs ys : List ℕ) → n ≡ front xs ys → take n xs ≡ take n ys
same_front n xs ys e = ap (λ m. take m xs) e ∙ front-same xs ys ∙ ap (λ m. take m ys) (sym e)
