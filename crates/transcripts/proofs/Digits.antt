-- Numbers in decimal: their digits read back, and end where an item of an array ends.
use Rattle.std.specs.Prelude.{◌≡◌, refl, ℕ, zero, suc, ◌+◌, ◌-◌, ◌*◌, ◌/◌, ◌%◌, ◌^◌, ◌<◌, ◌≤◌, nat_lt, Bool, true, false, List, [], ◌∷◌, ◌++◌, length, decimal}
use Rattle.std.proofs.Common.{sym, ap, ◌∙◌, subst, inl, inr, append_assoc, arith}
use Rattle.std.specs.declared.cmp.Ordering.TheVariants.{Equal, Greater}
use Rattle.std.specs.Ordering.{nat_cmp, ordering_then}
use Rattle.std.specs.FinMap.{nat_cmp-IsAntisymmetric}
use Rattle.std.proofs.lemmas.Bool.Decides.{nat_tests}
use Rattle.std.proofs.lemmas.Fmt.{decimal_digit, decimal_step}
use Rattle.lock_modes.specs.Resource.{both_equal}
use Rattle.transcripts.specs.Compact.{digits_in, whole_json, bytes_cmp}
use Rattle.transcripts.proofs.Codes.{then-assoc, then-equal, then-decided, one_step, first_decides, below, IsEnd}

-- ---- bytes between a comma and a closing bracket

abbrev pub AreInner : List ℕ → Type 0
AreInner [] = Unit {0}
AreInner (x ∷ xs) = ((44 < x) × (x < 93)) × AreInner xs

inner-append : (xs ys : List ℕ) → AreInner xs → AreInner ys → AreInner (xs ++ ys)
inner-append [] ys p q = q
inner-append (x ∷ xs) ys p q = (p.0, inner-append xs ys p.1 q)

-- such a byte is no end
not_end : (a x : ℕ) → IsEnd a → (44 < x) × (x < 93) → a ≡ x → ⊥
not_end a x p h e = elim p [ inl c ↦ omega (arith, c, h, e) | inr b ↦ omega (arith, b, h, e) ]

pub inner-order : (xs ys : List ℕ) (a b : ℕ) (s t : List ℕ) → AreInner xs → AreInner ys → IsEnd a → IsEnd b → bytes_cmp (xs ++ a ∷ s) (ys ++ b ∷ t)
    ≡ ordering_then (bytes_cmp (xs ++ a ∷ []) (ys ++ b ∷ [])) (bytes_cmp s t)
inner-order [] [] a b s t p q c d = one_step a b s t
inner-order [] (y ∷ ys) a b s t p q c d =
    let ne : a ≡ y → ⊥ = not_end a y c q.0 in
    first_decides a y s (ys ++ b ∷ t) ne
    ∙ sym (ap (λ o. ordering_then o (bytes_cmp s t)) (first_decides a y [] (ys ++ b ∷ []) ne)
    ∙ then-decided (nat_cmp a y) (bytes_cmp s t) (λ h. ne (nat_cmp-IsAntisymmetric a y h)))
inner-order (x ∷ xs) [] a b s t p q c d =
    let ne : x ≡ b → ⊥ = λ h. not_end b x d p.0 (sym h) in
    first_decides x b (xs ++ a ∷ s) t ne
    ∙ sym (ap (λ o. ordering_then o (bytes_cmp s t)) (first_decides x b (xs ++ a ∷ []) [] ne)
    ∙ then-decided (nat_cmp x b) (bytes_cmp s t) (λ h. ne (nat_cmp-IsAntisymmetric x b h)))
inner-order (x ∷ xs) (y ∷ ys) a b s t p q c d =
    ap (ordering_then (nat_cmp x y)) (inner-order xs ys a b s t p.1 q.1 c d)
    ∙ sym (then-assoc (nat_cmp x y) (bytes_cmp (xs ++ a ∷ []) (ys ++ b ∷ [])) (bytes_cmp s t))

pub inner-same : (xs ys : List ℕ) (a b : ℕ) → AreInner xs → AreInner ys → IsEnd a → IsEnd b → bytes_cmp (xs ++ a ∷ []) (ys ++ b ∷ []) ≡ Equal
    → (xs ≡ ys) × (a ≡ b)
inner-same [] [] a b p q c d e = (refl, nat_cmp-IsAntisymmetric a b (sym (then-equal (nat_cmp a b)) ∙ e))
inner-same [] (y ∷ ys) a b p q c d e = absurd (not_end a y c q.0 (nat_cmp-IsAntisymmetric a y (both_equal (nat_cmp a y) _ e).0))
inner-same (x ∷ xs) [] a b p q c d e = absurd (not_end b x d p.0 (sym (nat_cmp-IsAntisymmetric x b (both_equal (nat_cmp x b) _ e).0)))
inner-same (x ∷ xs) (y ∷ ys) a b p q c d e =
    let both = both_equal (nat_cmp x y) (bytes_cmp (xs ++ a ∷ []) (ys ++ b ∷ [])) e in
    let heads = nat_cmp-IsAntisymmetric x y both.0 in
    let tails = inner-same xs ys a b p.1 q.1 c d both.1 in
    (λ i. heads i ∷ tails.0 i, tails.1)

-- ---- digits

pub record IsDigits (xs : List ℕ) : Type 0 where
  pub some : 0 < length xs
  pub inner : AreInner xs
  pub low : (y : ℕ) (s t : List ℕ) → y < 48 → bytes_cmp (xs ++ s) (y ∷ t) ≡ Greater

digit : (d : ℕ) → 48 ≤ d → d < 58 → IsDigits (d ∷ [])
digit d low high = record {
  some = omega arith;
  inner = ((omega arith, omega arith), tt);
  low = λ y s t h. let ne : d ≡ y → ⊥ = λ e. omega arith in first_decides d y s t ne ∙ below y d (omega arith);
}

digits-append : (xs ys : List ℕ) → IsDigits xs → AreInner ys → IsDigits (xs ++ ys)
digits-append [] ys p q = absurd (omega (arith, p.some))
digits-append (x ∷ xs) ys p q = record {
  some = omega arith;
  inner = inner-append (x ∷ xs) ys p.inner q;
  low = λ y s t h. ap (λ l. bytes_cmp l (y ∷ t)) (append_assoc (x ∷ xs) ys s) ∙ p.low y (ys ++ s) t h;
}

digits_next : (room n : ℕ) (b : Bool) → nat_lt n 10 ≡ b → digits_in (suc room) n
    ≡ elim b [ true ↦ (48 + n) ∷ [] | false ↦ digits_in room (n / 10) ++ (48 + n % 10) ∷ [] ]
unfolding digits_in
digits_next room n b e = ap (λ (c : Bool). elim c [ true ↦ (48 + n) ∷ [] | false ↦ digits_in room (n / 10) ++ (48 + n % 10) ∷ [] ]) e

-- a number below ten is one digit
pub digits_one : (room n : ℕ) → n < 10 → digits_in (suc room) n ≡ (48 + n) ∷ []
digits_one room n h = digits_next room n true (grind (arith, nat_tests))

-- a larger one has its last digit at the end
pub digits_more : (room n : ℕ) → 10 ≤ n → digits_in (suc room) n ≡ digits_in room (n / 10) ++ (48 + n % 10) ∷ []
digits_more room n h = digits_next room n false (grind (arith, nat_tests))

-- by cases: below ten or not
split : (n : ℕ) (P : Type 0) → (n < 10 → P) → (10 ≤ n → P) → P
split n P small large = by (nat_lt n 10) refl
  where
    by : (b : Bool) → nat_lt n 10 ≡ b → P
    by true e = small (grind (arith, nat_tests))
    by false e = large (grind (arith, nat_tests))

pub are-digits : (room n : ℕ) → n < room → IsDigits (digits_in room n)
are-digits zero n h = absurd (omega arith)
are-digits (suc room) n h =
    split n (IsDigits (digits_in (suc room) n))
    (λ small. subst IsDigits (sym (digits_one room n small)) (digit (48 + n) (omega arith) (omega arith)))
    (λ large. subst IsDigits (sym (digits_more room n large)) (digits-append _ _ (are-digits room (n / 10) (omega arith)) ((omega arith, omega arith), tt)))

-- what digits stand for, behind others
value_onto : ℕ → List ℕ → ℕ
value_onto n [] = n
value_onto n (d ∷ ds) = value_onto (n * 10 + (d - 48)) ds

value-append : (n : ℕ) (xs ys : List ℕ) → value_onto n (xs ++ ys) ≡ value_onto (value_onto n xs) ys
unfolding value_onto
value-append n [] ys = refl
value-append n (x ∷ xs) ys = value-append (n * 10 + (x - 48)) xs ys

value_one : (n d : ℕ) → value_onto n (d ∷ []) ≡ n * 10 + (d - 48)
unfolding value_onto
value_one n d = refl

value-digits : (room n : ℕ) → n < room → value_onto 0 (digits_in room n) ≡ n
value-digits zero n h = absurd (omega arith)
value-digits (suc room) n h =
    split n (value_onto 0 (digits_in (suc room) n) ≡ n)
    (λ small. ap (value_onto 0) (digits_one room n small) ∙ value_one 0 (48 + n) ∙ omega arith)
    (λ large.
    ap (value_onto 0) (digits_more room n large) ∙ value-append 0 (digits_in room (n / 10)) _ ∙ value_one _ (48 + n % 10)
    ∙ ap (λ k. k * 10 + (48 + n % 10 - 48)) (value-digits room (n / 10) (omega arith)) ∙ omega arith)

-- numbers whose digits are one are one
pub whole-same : (m n : ℕ) → whole_json m ≡ whole_json n → m ≡ n
whole-same m n e = sym (value-digits (suc m) m (omega arith)) ∙ ap (value_onto 0) e ∙ value-digits (suc n) n (omega arith)

digits-decimal : (room n : ℕ) → n < room → n < 2 ^ 64 → digits_in room n ≡ decimal n
digits-decimal zero n h fits = absurd (omega arith)
digits-decimal (suc room) n h fits =
    split n (digits_in (suc room) n ≡ decimal n)
    (λ small. digits_one room n small ∙ sym (decimal_digit n small))
    (λ large. digits_more room n large ∙ ap (λ ds. ds ++ (48 + n % 10) ∷ []) (digits-decimal room (n / 10) (omega arith) (omega arith))
    ∙ sym (decimal_step n large fits))

-- a number of 64 bits has the digits that are printed
pub whole-decimal : (n : ℕ) → n < 2 ^ 64 → whole_json n ≡ decimal n
whole-decimal n fits = digits-decimal (suc n) n (omega arith) fits
