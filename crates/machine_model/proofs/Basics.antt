-- Lists, tests and look-ups.
use Rattle.std.proofs.Common.{◌≡◌, ◌≢◌, refl, sym, ◌∙◌, ℕ, arith, Bool, true, false, cond, not, ◌&&◌, ◌||◌, List, [], ◌∷◌, ◌++◌, filter, ◌⊎◌, inl, inr}
use Rattle.std.proofs.Common.{true≢false}
use Rattle.std.specs.List.{list_any, list_all}
use Rattle.statement_evaluation.proofs.ListLemmas.{Each, Each-map}

pub Each-left : {A : Type 0} (P : A → Type 0) (xs ys : List A) → Each P (xs ++ ys) → Each P xs
Each-left P [] ys p = tt
Each-left P (x ∷ xs) ys p = (p.0, Each-left P xs ys p.1)

pub Each-right : {A : Type 0} (P : A → Type 0) (xs ys : List A) → Each P (xs ++ ys) → Each P ys
Each-right P [] ys p = p
Each-right P (x ∷ xs) ys p = Each-right P xs ys p.1

pub both_true : (a b : Bool) → (a && b) ≡ true → (a ≡ true) × (b ≡ true)
both_true true b e = (refl, e)
both_true false b e = cc

pub and_true : (a b : Bool) → a ≡ true → b ≡ true → (a && b) ≡ true
and_true true b p q = q
and_true false b p q = p

pub either_true : (a b : Bool) → (a || b) ≡ true → (a ≡ true) ⊎ (b ≡ true)
either_true true b e = inl refl
either_true false b e = inr e

pub or_true_left : (a b : Bool) → a ≡ true → (a || b) ≡ true
or_true_left true b e = refl
or_true_left false b e = cc

pub or_true_right : (a b : Bool) → b ≡ true → (a || b) ≡ true
or_true_right true b e = refl
or_true_right false b e = e

pub not_true : (a : Bool) → not a ≡ true → a ≡ false
not_true true e = cc
not_true false e = refl

pub not_both : (a : Bool) → a ≡ true → a ≡ false → ⊥
not_both a p q = true≢false (sym p ∙ q)

pub known : (a : Bool) → (a ≡ true) ⊎ (a ≡ false)
known true = inl refl
known false = inr refl

pub Each-list_all : {A : Type 0} (test : A → Bool) (xs : List A) → list_all test xs ≡ true → Each (λ x. test x ≡ true) xs
Each-list_all test [] e = tt
Each-list_all test (x ∷ xs) e = let p = both_true (test x) _ e in (p.0, Each-list_all test xs p.1)

pub list_all-Each : {A : Type 0} (test : A → Bool) (xs : List A) → Each (λ x. test x ≡ true) xs → list_all test xs ≡ true
list_all-Each test [] e = refl
list_all-Each test (x ∷ xs) e = and_true (test x) _ e.0 (list_all-Each test xs e.1)

-- what holds of each holds of the one that passes
pub some_passes : {A : Type 0} (P : A → Type 0) (test : A → Bool) (xs : List A) → Each P xs → list_any test xs ≡ true → (x : A) × P x × (test x ≡ true)
some_passes P test [] p e = cc
some_passes {A} P test (x ∷ xs) p e = elim (either_true (test x) _ e) [ inl h ↦ (x, p.0, h) | inr h ↦ some_passes P test xs p.1 h ]

pub filter_same : {A : Type 0} (f g : A → Bool) (xs : List A) → Each (λ x. f x ≡ g x) xs → filter f xs ≡ filter g xs
filter_same f g [] p = refl
filter_same f g (x ∷ xs) p = λ i. cond (p.0 i) (x ∷ filter_same f g xs p.1 i) (filter_same f g xs p.1 i)

-- the two ways round
pub Each-swap : {A B : Type 0} (R : A → B → Type 0) (xs : List A) (ys : List B) → Each (λ x. Each (R x) ys) xs → Each (λ y. Each (λ x. R x y) xs) ys
Each-swap R xs [] h = tt
Each-swap R xs (y ∷ ys) h = (
  Each-map (λ x. Each (R x) (y ∷ ys)) (λ x. R x y) (λ x p. p.0) xs h,
  Each-swap R xs ys (Each-map (λ x. Each (R x) (y ∷ ys)) (λ x. Each (R x) ys) (λ x p. p.1) xs h),
)

pub cases-eq : (a b : ℕ) → (a ≡ b) ⊎ (a ≢ b)
cases-eq a b = grind arith
