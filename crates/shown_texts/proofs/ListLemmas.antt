-- What holds of each item of a list.
use Rattle.std.proofs.Common.{◌≡◌, ap, ◌∙◌, ℕ, zero, suc, ◌+◌, ◌<◌, Bool, true, false, cond, List, [], ◌∷◌, ◌++◌, length, map, get_or, drop, flat_map, append_assoc, add-one, arith}
use Rattle.std.specs.List.{AllByRecursion}

pub all-append : {X : Type 0} (P : X → Type 0) → (xs ys : List X) → AllByRecursion P xs → AllByRecursion P ys → AllByRecursion P (xs ++ ys)
all-append P [] ys are also = also
all-append P (x ∷ xs) ys are also = (are.0, all-append P xs ys are.1 also)

pub all-flat : {X Y : Type 0} (P : Y → Type 0) (f : X → List Y) → ((x : X) → AllByRecursion P (f x)) → (xs : List X) → AllByRecursion P (flat_map f xs)
all-flat P f each [] = tt
all-flat P f each (x ∷ xs) = all-append P (f x) (flat_map f xs) (each x) (all-flat P f each xs)

pub all-map : {X Y : Type 0} (P : Y → Type 0) (f : X → Y) → (xs : List X) → AllByRecursion (λ x. P (f x)) xs → AllByRecursion P (map f xs)
all-map P f [] are = tt
all-map P f (x ∷ xs) are = (are.0, all-map P f xs are.1)

pub all-weaken : {X : Type 0} (P Q : X → Type 0) → ((x : X) → P x → Q x) → (xs : List X) → AllByRecursion P xs → AllByRecursion Q xs
all-weaken P Q each [] are = tt
all-weaken P Q each (x ∷ xs) are = (each x are.0, all-weaken P Q each xs are.1)

pub all-get : {X : Type 0} (P : X → Type 0) (d : X) → P d → (xs : List X) (i : ℕ) → AllByRecursion P xs → P (get_or xs i d)
all-get P d is [] i are = is
all-get P d is (x ∷ xs) zero are = are.0
all-get P d is (x ∷ xs) (suc i) are = all-get P d is xs i are.1

pub all-cond : {X : Type 0} (P : X → Type 0) (b : Bool) → (xs ys : List X) → AllByRecursion P xs → AllByRecursion P ys → AllByRecursion P (cond b xs ys)
all-cond P true xs ys are also = are
all-cond P false xs ys are also = also

-- what is put of the next item and what is left come to what was left before
pub flat-on : {X A : Type 0} (f : X → List A) (xs : List X) (i : ℕ) (x : X) (all more whole : List A) → i < length xs → x ≡ get_or xs i x → more ≡ all ++ f x
    → all ++ flat_map f (drop i xs) ≡ whole → more ++ flat_map f (drop (i + 1) xs) ≡ whole
flat-on {X = X} f xs i x all more whole lt is next so =
    rw add-one (ap (λ front. front ++ flat_map f (drop (suc i) xs)) next ∙ append_assoc all (f x) (flat_map f (drop (suc i) xs)) ∙ ap (λ rest. all ++ rest) (step xs i lt is) ∙ so)
  where
    step : (ys : List X) (k : ℕ) → k < length ys → x ≡ get_or ys k x → f x ++ flat_map f (drop (suc k) ys) ≡ flat_map f (drop k ys)
    step [] k lt is = absurd (omega (arith, lt))
    step (y ∷ ys) zero lt is = ap (λ z. f z ++ flat_map f ys) is
    step (y ∷ ys) (suc k) lt is = step ys k (omega (arith, lt)) is
