-- Shares are looked through one by one.
use Rattle.std.proofs.Common.{◌≡◌, refl, sym, ap, ◌∙◌, ℕ, zero, suc, ◌-◌, ◌<◌, ◌≤◌, true, false, cond, arith}
use Rattle.class_texts.specs.Intervals.{is_far, low_share, high_share}

pub low-near : (whole part share : ℕ) → 0 < share → is_far whole part share ≡ false → low_share whole part (share - 1) ≡ low_share whole part share
low-near whole part zero some near = absurd (omega (arith, some))
low-near whole part (suc share) some near = ap (low_share whole part) (let less : suc share - 1 ≡ share = omega arith in less) ∙ ap (λ b. cond b (suc share) (low_share whole part share)) (sym near)

pub low-far : (whole part share : ℕ) → 0 < share → is_far whole part share ≡ true → share ≡ low_share whole part share
low-far whole part zero some far = absurd (omega (arith, some))
low-far whole part (suc share) some far = ap (λ b. cond b (suc share) (low_share whole part share)) (sym far)

pub high-near : (whole part left : ℕ) → 0 < left → is_far whole part (1000 - left) ≡ false → high_share whole part (left - 1) ≡ high_share whole part left
high-near whole part zero some near = absurd (omega (arith, some))
high-near whole part (suc left) some near = ap (high_share whole part) (let less : suc left - 1 ≡ left = omega arith in less) ∙ ap (λ b. cond b (1000 - suc left) (high_share whole part left)) (sym near)

pub high-far : (whole part left : ℕ) → 0 < left → is_far whole part (1000 - left) ≡ true → 1000 - left ≡ high_share whole part left
high-far whole part zero some far = absurd (omega (arith, some))
high-far whole part (suc left) some far = ap (λ b. cond b (1000 - suc left) (high_share whole part left)) (sym far)

pub high-end : (whole part left : ℕ) → left ≤ 0 → 1000 - left ≡ high_share whole part left
high-end whole part zero end = refl
high-end whole part (suc left) end = absurd (omega (arith, end))
