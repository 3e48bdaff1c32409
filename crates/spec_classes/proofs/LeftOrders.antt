-- The orders of the sessions that are left.
use Rattle.std.proofs.Common.{◌≡◌, ◌≢◌, refl, sym, ap, ◌∙◌, subst, ℕ, zero, suc, ◌+◌, ◌<◌, cond, ◌==◌, List, [], ◌∷◌, length, set, get_or, replicate, ⊎_elim, arith}
use Rattle.std.proofs.Common.{get_or-set_same, get_or-set_other}
use Rattle.std.proofs.lemmas.List.{get_or_past}
use Rattle.std.proofs.lemmas.Bool.{cases_eq, cases_lt, ne_eqb}
use Rattle.std.proofs.lemmas.Grind.{get_or-set_at}
use Rattle.order_classes.specs.Letters.{times}
use Rattle.spec_classes.specs.Serial.{AreOnce, IsOrderOf}
use Rattle.spec_classes.proofs.SerialLines.{times-here}

pub zeros-at : (n i : ℕ) → ◌≡◌ {A = ℕ} (get_or (replicate n 0) i 0) 0
zeros-at zero i = refl
zeros-at (suc n) zero = refl
zeros-at (suc n) (suc i) = zeros-at n i

zeros-are : (left : List ℕ) → ((i : ℕ) → get_or left i 0 ≡ 0) → left ≡ replicate (length left) 0
zeros-are [] none = refl
zeros-are (x ∷ left) none = λ j. none 0 j ∷ zeros-are left (λ i. none (suc i)) j

-- where nothing is left there is one order, of no sessions
pub none-left : (n : ℕ) (order : List ℕ) → IsOrderOf (replicate n 0) order → order ≡ []
none-left n [] h = refl
none-left n (i ∷ order) h = absurd (let here = times-here i order in let none = zeros-at n i in let own = h i in omega (arith, here, none, own))

-- where something is left an order has a first session
pub some-left : (left order : List ℕ) → left ≢ replicate (length left) 0 → IsOrderOf left order → (i : ℕ) × (rest : List ℕ) × (order ≡ i ∷ rest)
some-left left [] some h = absurd (some (zeros-are left (λ i. sym (h i))))
some-left left (i ∷ order) some h = (i, order, refl)

pub is-inside : (left : List ℕ) (i n : ℕ) → get_or left i 0 ≡ suc n → i < length left
is-inside left i n is = ⊎_elim (λ lt. lt) (λ le. absurd (let none = get_or_past left i 0 le in omega (arith, none, is))) (cases_lt i (length left))

times-other : (i j : ℕ) (order : List ℕ) → i ≢ j → times i (j ∷ order) ≡ times i order
times-other i j order apart = let none : ◌≡◌ {A = ℕ} (cond (i == j) 1 0) 0 = ap (λ b. cond b 1 0) (ne_eqb i j apart) in omega (arith, none)

-- and goes on with one of what is left behind that
pub rest-left : (left : List ℕ) (i : ℕ) (rest : List ℕ) → IsOrderOf left (i ∷ rest) → (get_or left i 0 ≡ suc (times i rest)) × IsOrderOf (set left i (times i rest)) rest
rest-left left i rest h = (
  is,
  λ j. ⊎_elim
      (λ same. ap (λ k. times k rest) same ∙ sym (get_or-set_at left i j (times i rest) 0 same (is-inside left i (times i rest) is)))
      (λ apart. sym (times-other j i rest apart) ∙ h j ∙ sym (get_or-set_other left i j (times i rest) 0 apart))
      (cases_eq j i),
)
  where
    is : get_or left i 0 ≡ suc (times i rest)
    is = sym (h i) ∙ times-here i rest

pub first-left : (left : List ℕ) (i n : ℕ) (rest : List ℕ) → get_or left i 0 ≡ suc n → IsOrderOf (set left i n) rest → IsOrderOf left (i ∷ rest)
first-left left i n rest is h j = ⊎_elim
    (λ same. subst (λ k. times k (i ∷ rest) ≡ get_or left k 0) (sym same)
    (times-here i rest ∙ ap suc (h i ∙ get_or-set_same left i n 0 (is-inside left i n is)) ∙ sym is))
    (λ apart. times-other j i rest apart ∙ h j ∙ get_or-set_other left i j n 0 apart)
    (cases_eq j i)

-- one more session is left once
pub once-more : (left : List ℕ) (n : ℕ) → n < length left → AreOnce n left → AreOnce (n + 1) (set left n 1)
once-more left n inside h = record {
  each = λ i lt. ⊎_elim (λ same. get_or-set_at left n i 1 0 same inside)
      (λ apart. get_or-set_other left n i 1 0 apart ∙ h.each i (⊎_elim (λ l. l) (λ le. absurd (apart (omega (arith, lt, le)))) (cases_lt i n)))
      (cases_eq i n);
  none = λ i le. get_or-set_other left n i 1 0 (λ e. omega (arith, e, le)) ∙ h.none i (omega (arith, le));
}
