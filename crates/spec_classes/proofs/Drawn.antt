-- Ranks, as they are drawn one by one.
use Rattle.std.proofs.Common.{◌≡◌, refl, sym, ap, ◌∙◌, ℕ, suc, ◌+◌, ◌-◌, ◌<◌, List, [], ◌∷◌, ◌++◌, arith}
use Rattle.std.specs.Prelude.{◌%◌}
use Rattle.std.proofs.lemmas.List.{append_assoc, append-nil}
use Rattle.rand_xoshiro.specs.SplitMix64.{mix_u64}
use Rattle.spec_classes.specs.Drawing.{drawn_by}

-- what was drawn, and what is still to be drawn
abbrev pub AreBegun : ℕ → ℕ → ℕ → ℕ → ℕ → List ℕ → Type 0
AreBegun seed bound count state done ranks = ranks ++ drawn_by state bound (count - done) ≡ drawn_by seed bound count

pub drawn-none : (seed bound count : ℕ) → AreBegun seed bound count seed 0 []
drawn-none seed bound count = ap (drawn_by seed bound) (let e : count - 0 ≡ count = omega arith in e)

by-one : (state bound left : ℕ) → drawn_by state bound (suc left) ≡ (mix_u64 state).0 % bound ∷ drawn_by (mix_u64 state).1 bound left
unfolding drawn_by
by-one state bound left = refl

-- one more
pub drawn-more : (seed bound count state done word next : ℕ) (rs qs : List ℕ) → done < count → (word, next) ≡ mix_u64 state → qs ≡ rs ++ (word % bound) ∷ []
    → AreBegun seed bound count state done rs → AreBegun seed bound count next (done + 1) qs
drawn-more seed bound count state done word next rs qs lt is more begun =
    ap (λ l. l ++ drawn_by next bound (count - (done + 1))) more
    ∙ append_assoc rs ((word % bound) ∷ []) (drawn_by next bound (count - (done + 1)))
    ∙ ap (λ w. rs ++ (w.0 % bound) ∷ drawn_by w.1 bound (count - (done + 1))) is
    ∙ ap (λ l. rs ++ l) (sym (by-one state bound (count - (done + 1))))
    ∙ ap (λ n. rs ++ drawn_by state bound n) (let e : suc (count - (done + 1)) ≡ count - done = omega (arith, lt) in e)
    ∙ begun

pub drawn-all : (seed bound count state : ℕ) (rs : List ℕ) → AreBegun seed bound count state count rs → rs ≡ drawn_by seed bound count
unfolding drawn_by
drawn-all seed bound count state rs begun =
    sym (append-nil rs) ∙ ap (λ n. rs ++ drawn_by state bound n) (let e : 0 ≡ count - count = omega arith in e) ∙ begun
