-- Below any limit as many numbers leave one rest as leave any other, up to one.
use Rattle.std.proofs.Common.{◌≡◌, refl, sym, ap, ◌∙◌, subst, ℕ, zero, suc, ◌+◌, ◌*◌, ◌<◌, ◌≤◌, Bool, true, false, nat_lt, List, [], ◌∷◌, length, ◌⊎◌, inl, inr, arith}
use Rattle.std.specs.Prelude.{◌/◌, ◌%◌}
use Rattle.std.proofs.Math.Nat.{mul-le-mul_right, mod-lt}
use Rattle.std.proofs.lemmas.Nat.{div-add-mod', mod-mul-add}
use Rattle.std.proofs.lemmas.Bool.{ltb-true, ltb-false}
use Rattle.lock_queues.specs.Reasons.{Among}
use Rattle.order_classes.specs.Numbers.{RiseFrom, IsNumberOf}

-- so many numbers from x on, each larger by b
abbrev stepped : ℕ → ℕ → ℕ → List ℕ
stepped b x zero = []
stepped b x (suc n) = x ∷ stepped b (x + b) n

stepped-rise : (b low x n : ℕ) → 0 < b → low ≤ x → RiseFrom low (stepped b x n)
stepped-rise b low x zero some le = tt
stepped-rise b low x (suc n) some le = (le, stepped-rise b (suc x) (x + b) n some (omega (arith, some)))

stepped-length : (b x n : ℕ) → length (stepped b x n) ≡ n
stepped-length b x zero = refl
stepped-length b x (suc n) = ap suc (stepped-length b (x + b) n)

in-stepped : (b x n w : ℕ) → Among w (stepped b x n) → (k : ℕ) × (k < n) × (w ≡ k * b + x)
in-stepped b x zero w m = absurd m
in-stepped b x (suc n) w (inl e) = (0, omega arith, omega (arith, e))
in-stepped b x (suc n) w (inr m) =
    let r = in-stepped b (x + b) n w m in
    let lt = r.1 in
    let e = r.2 in
    let more : suc r.0 * b ≡ r.0 * b + b = omega arith in
    (suc r.0, omega (arith, lt), omega (arith, e, more))

to-stepped : (b x n k w : ℕ) → k < n → w ≡ k * b + x → Among w (stepped b x n)
to-stepped b x zero k w lt e = absurd (omega (arith, lt))
to-stepped b x (suc n) zero w lt e = inl (omega (arith, e))
to-stepped b x (suc n) (suc k) w lt e =
    let more : suc k * b ≡ k * b + b = omega arith in
    inr (to-stepped b (x + b) n k w (omega (arith, lt)) (omega (arith, e, more)))

module _ (limit b r : ℕ) (inside : r < b) where
  abbrev IsSo : ℕ → Type 0
  IsSo w = (w < limit) × (r ≡ w % b)

  -- as many as this, where the next one is past the limit and the last one below it
  counted : (n : ℕ) → ((k : ℕ) → k < n → k * b + r < limit) → ((k : ℕ) → n ≤ k → limit ≤ k * b + r) → IsNumberOf IsSo n
  counted n below past = record {
    ranks = stepped b r n;
    rise = stepped-rise b 0 r n (omega (arith, inside)) (omega arith);
    has = λ w. (
      (λ m. (let x = in-stepped b r n w m in
          let e = x.2 in
          let lt = below x.0 x.1 in
          (omega (arith, e, lt), sym (ap (λ v. v % b) e ∙ mod-mul-add x.0 b r inside)))),
      (λ so. (let whole : w / b * b + w % b ≡ w = div-add-mod' w b in
          let is : w ≡ w / b * b + r = sym whole ∙ ap (λ v. w / b * b + v) (sym so.1) in
          let under = so.0 in
          let cases : (w / b < n) ⊎ (n ≤ w / b) = grind arith in
          at w is under cases)),
    );
    count = stepped-length b r n;
  }
    where
      at : (w : ℕ) → w ≡ w / b * b + r → w < limit → (w / b < n) ⊎ (n ≤ w / b) → Among w (stepped b r n)
      at w is under (inl lt) = to-stepped b r n (w / b) w lt is
      at w is under (inr le) = absurd (let over = past (w / b) le in omega (arith, is, under, over))

  rest : limit / b * b + limit % b ≡ limit
  rest = div-add-mod' limit b

  pub even : (n : ℕ) × IsNumberOf IsSo n × ((n ≡ limit / b) ⊎ (n ≡ limit / b + 1))
  even = by (nat_lt r (limit % b)) refl
    where
      by : (c : Bool) → nat_lt r (limit % b) ≡ c → (n : ℕ) × IsNumberOf IsSo n × ((n ≡ limit / b) ⊎ (n ≡ limit / b + 1))
      by true is = (limit / b + 1, counted (limit / b + 1) below past, inr refl)
        where
          lt : r < limit % b
          lt = ltb-true r (limit % b) is

          below : (k : ℕ) → k < limit / b + 1 → k * b + r < limit
          below k l = let le = mul-le-mul_right {m = k} {n = limit / b} b (omega (arith, l)) in let e = rest in omega (arith, le, e, lt)

          past : (k : ℕ) → limit / b + 1 ≤ k → limit ≤ k * b + r
          past k l =
              let le = mul-le-mul_right {m = limit / b + 1} {n = k} b l in
              let more : (limit / b + 1) * b ≡ limit / b * b + b = omega arith in
              let small = mod-lt limit {m = b} (omega (arith, inside)) in
              let e = rest in
              omega (arith, le, more, small, e)
      by false is = (limit / b, counted (limit / b) below past, inl refl)
        where
          ge : limit % b ≤ r
          ge = ltb-false r (limit % b) is

          below : (k : ℕ) → k < limit / b → k * b + r < limit
          below k l =
              let le = mul-le-mul_right {m = k + 1} {n = limit / b} b (omega (arith, l)) in
              let more : (k + 1) * b ≡ k * b + b = omega arith in
              let e = rest in
              omega (arith, le, more, e, inside)

          past : (k : ℕ) → limit / b ≤ k → limit ≤ k * b + r
          past k l = let le = mul-le-mul_right {m = limit / b} {n = k} b l in let e = rest in omega (arith, le, e, ge)
