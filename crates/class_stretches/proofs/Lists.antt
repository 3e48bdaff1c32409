-- The last stretch of a list, and what is put behind it.
use Rattle.std.proofs.Common.{◌≡◌, refl, sym, ap, ℕ, zero, suc, ◌+◌, ◌<◌, true, false, cond, Option, List, [], ◌∷◌, ◌++◌, length, set, arith}
use Rattle.class_stretches.specs.declared.stretch.Stretch.{Stretch}
use Rattle.class_stretches.specs.Stretches.{end_from, same_class}
use Rattle.class_stretches.specs.Growing.{end_at, class_of, goes_on, pushed}

pub last-ends : (low : ℕ) (ss : List Stretch) (k : ℕ) → k + 1 ≡ length ss → end_at ss k ≡ end_from low ss
last-ends low [] k is = absurd (omega (arith, is))
last-ends low (s ∷ []) zero is = refl
last-ends low (s ∷ []) (suc k) is = absurd (omega (arith, is))
last-ends low (s ∷ t ∷ ss) zero is = absurd (omega (arith, is))
last-ends low (s ∷ t ∷ ss) (suc k) is = last-ends s.end (t ∷ ss) k (omega (arith, is))

pub last-class : (ss : List Stretch) (k : ℕ) (c : Option ℕ) → k + 1 ≡ length ss → same_class (class_of ss k) c ≡ goes_on ss c
last-class [] k c is = absurd (omega (arith, is))
last-class (s ∷ []) zero c is = refl
last-class (s ∷ []) (suc k) c is = absurd (omega (arith, is))
last-class (s ∷ t ∷ ss) zero c is = absurd (omega (arith, is))
last-class (s ∷ t ∷ ss) (suc k) c is = last-class (t ∷ ss) k c (omega (arith, is))

pub last-goes-on : (ss : List Stretch) (k e : ℕ) (c : Option ℕ) → goes_on ss c ≡ true → k + 1 ≡ length ss
    → set ss k (record { end = e; class = c }) ≡ pushed ss e c
last-goes-on [] k e c on is = absurd (omega (arith, is))
last-goes-on (s ∷ []) zero e c on is = sym (ap (λ b. cond b (record { end = e; class = c } ∷ []) (s ∷ record { end = e; class = c } ∷ [])) on)
last-goes-on (s ∷ []) (suc k) e c on is = absurd (omega (arith, is))
last-goes-on (s ∷ t ∷ ss) zero e c on is = absurd (omega (arith, is))
last-goes-on (s ∷ t ∷ ss) (suc k) e c on is = ap (λ rest. s ∷ rest) (last-goes-on (t ∷ ss) k e c on (omega (arith, is)))

pub not-empty : (ss : List Stretch) (c : Option ℕ) → goes_on ss c ≡ true → 0 < length ss
not-empty [] c on = absurd (let e : false ≡ true = on in cc)
not-empty (s ∷ ss) c on = omega arith

pub next-begins : (ss : List Stretch) (e : ℕ) (c : Option ℕ) → goes_on ss c ≡ false → ss ++ record { end = e; class = c } ∷ [] ≡ pushed ss e c
next-begins [] e c off = refl
next-begins (s ∷ []) e c off = sym (ap (λ b. cond b (record { end = e; class = c } ∷ []) (s ∷ record { end = e; class = c } ∷ [])) off)
next-begins (s ∷ t ∷ ss) e c off = ap (λ rest. s ∷ rest) (next-begins (t ∷ ss) e c off)
