-- Wilson's interval for the share of which a part of a sample was seen, in tenths of a per cent.
use Rattle.std.specs.Prelude.{ℕ, zero, suc, ◌-◌, ◌*◌, ◌/◌, max, nat_lt, Bool, cond}
use Rattle.std.specs.Int.{abs_diff}

-- a share of the orders is too far off where samples of so many as these seldom have such a part: the part that it lets expect lies more than 1.96 standard
-- deviations away. Wilson's interval has all others, in 95 of 100 samples the true one among them
abbrev pub is_far : ℕ → ℕ → ℕ → Bool
is_far whole part share =
    nat_lt (38416 * (whole * (share * (1000 - share)))) (10000 * (abs_diff (1000 * part) (whole * share) * abs_diff (1000 * part) (whole * share)))

-- the share that was seen, rounded down
abbrev pub seen_share : ℕ → ℕ → ℕ
seen_share whole part = 1000 * part / max 1 whole

-- the first from this one down that is too far off, or 0
abbrev pub low_share : ℕ → ℕ → ℕ → ℕ
low_share whole part zero = 0
low_share whole part (suc share) = cond (is_far whole part (suc share)) (suc share) (low_share whole part share)

-- the first upwards that is too far off, or 1000, where so many are left below that
abbrev pub high_share : ℕ → ℕ → ℕ → ℕ
high_share whole part zero = 1000
high_share whole part (suc left) = cond (is_far whole part (1000 - suc left)) (1000 - suc left) (high_share whole part left)
