-- Pairs of two lists.
use Rattle.std.proofs.Common.{◌≡◌, ℕ, zero, suc, ◌≤◌, min, List, [], ◌∷◌, length, drop, refl, arith}
use Rattle.std.specs.Prelude.{zip}

pub zip-nil : (A B : Type 0) (xs : List A) → zip {K = A} {X = B} xs [] ≡ []
zip-nil A B [] = refl
zip-nil A B (x ∷ xs) = refl

-- none is left where one of the lists has ended
pub zip-spent : {A B : Type 0} (n : ℕ) (xs : List A) (ys : List B) → min (length xs) (length ys) ≤ n → zip (drop n xs) (drop n ys) ≡ []
zip-spent zero [] ys le = refl
zip-spent zero (x ∷ xs) [] le = refl
zip-spent zero (x ∷ xs) (y ∷ ys) le = absurd (omega (arith, le))
zip-spent (suc n) [] ys le = refl
zip-spent {A = A} {B = B} (suc n) (x ∷ xs) [] le = zip-nil A B (drop n xs)
zip-spent (suc n) (x ∷ xs) (y ∷ ys) le = zip-spent n xs ys (omega (arith, le))
