-- A wait that is taken out of the list of waits.
use Rattle.std.specs.Prelude.{◌≡◌, refl, ℕ, zero, suc, ◌<◌, ◌≤◌, List, [], ◌∷◌, length, get_or, set, take}
use Rattle.std.proofs.Common.{ap, arith}
use Rattle.std.specs.List.{remove}
use Rattle.marked_locks.specs.declared.wait.NumberedWait.{NumberedWait}

-- the waits behind a place, up to another one, are moved one place to the front
abbrev pub moved : ℕ → ℕ → List NumberedWait → List NumberedWait
moved zero zero ws = ws
moved zero (suc n) (v ∷ w ∷ ws) = w ∷ moved zero n (w ∷ ws)
moved zero (suc n) (w ∷ []) = w ∷ []
moved zero (suc n) [] = []
moved (suc k) (suc n) (w ∷ ws) = w ∷ moved k n ws
moved (suc k) zero ws = ws
moved (suc k) (suc n) [] = []

pub moved-none : (k : ℕ) (ws : List NumberedWait) → moved k k ws ≡ ws
moved-none zero ws = refl
moved-none (suc k) [] = refl
moved-none (suc k) (w ∷ ws) = ap (λ us. w ∷ us) (moved-none k ws)

pub length-moved : (k n : ℕ) (ws : List NumberedWait) → length (moved k n ws) ≡ length ws
length-moved zero zero ws = refl
length-moved zero (suc n) (v ∷ w ∷ ws) = ap suc (length-moved zero n (w ∷ ws))
length-moved zero (suc n) (w ∷ []) = refl
length-moved zero (suc n) [] = refl
length-moved (suc k) (suc n) (w ∷ ws) = ap suc (length-moved k n ws)
length-moved (suc k) zero ws = refl
length-moved (suc k) (suc n) [] = refl

-- one more is moved
pub moved-more : (k n : ℕ) (ws : List NumberedWait) (d : NumberedWait) → k ≤ n → suc n < length ws
    → moved k (suc n) ws ≡ set (moved k n ws) n (get_or (moved k n ws) (suc n) d)
moved-more zero zero [] d le lt = absurd (omega (arith, lt))
moved-more zero zero (v ∷ []) d le lt = absurd (omega (arith, lt))
moved-more zero zero (v ∷ w ∷ ws) d le lt = refl
moved-more zero (suc n) [] d le lt = absurd (omega (arith, lt))
moved-more zero (suc n) (v ∷ []) d le lt = absurd (omega (arith, lt))
moved-more zero (suc n) (v ∷ w ∷ ws) d le lt = ap (λ us. w ∷ us) (moved-more zero n (w ∷ ws) d (omega arith) (omega (arith, lt)))
moved-more (suc k) zero ws d le lt = absurd (omega (arith, le))
moved-more (suc k) (suc n) [] d le lt = absurd (omega (arith, lt))
moved-more (suc k) (suc n) (w ∷ ws) d le lt = ap (λ us. w ∷ us) (moved-more k n ws d (omega (arith, le)) (omega (arith, lt)))

-- once all are moved, the wait is gone
pub moved-all : (k n : ℕ) (ws : List NumberedWait) → k ≤ n → length ws ≡ suc n → take n (moved k n ws) ≡ remove ws k
moved-all zero zero [] le long = absurd (omega (arith, long))
moved-all zero zero (w ∷ []) le long = refl
moved-all zero zero (v ∷ w ∷ ws) le long = absurd (omega (arith, long))
moved-all zero (suc n) [] le long = absurd (omega (arith, long))
moved-all zero (suc n) (v ∷ []) le long = absurd (omega (arith, long))
moved-all zero (suc n) (v ∷ w ∷ ws) le long = ap (λ us. w ∷ us) (moved-all zero n (w ∷ ws) (omega arith) (omega (arith, long)))
moved-all (suc k) zero ws le long = absurd (omega (arith, le))
moved-all (suc k) (suc n) [] le long = absurd (omega (arith, long))
moved-all (suc k) (suc n) (w ∷ ws) le long = ap (λ us. w ∷ us) (moved-all k n ws (omega (arith, le)) (omega (arith, long)))
