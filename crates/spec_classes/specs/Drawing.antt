-- Ranks that are drawn by words of 64 bits.
use Rattle.std.specs.Prelude.{◌≡◌, ℕ, zero, suc, ◌+◌, ◌<◌, ◌^◌, ◌/◌, ◌%◌, ◌⊎◌, List, [], ◌∷◌}
use Rattle.std.specs.List.Sorted.{IsNonDecreasingBy, IsPermutation}
use Rattle.rand_xoshiro.specs.SplitMix64.{mix_u64}
use Rattle.order_classes.specs.Numbers.{IsNumberOf}

-- the rank below the bound for which a word stands
abbrev pub rank_by : ℕ → ℕ → ℕ
rank_by bound word = word % bound

-- so many ranks: those for which the words of SplitMix64 stand from this state on, in their order; the first state is the seed
unfoldable pub drawn_by : ℕ → ℕ → ℕ → List ℕ
drawn_by state bound zero = []
drawn_by state bound (suc count) = rank_by bound (mix_u64 state).0 ∷ drawn_by (mix_u64 state).1 bound count

-- the ranks below the bound that a seed draws, so many, none below the one before it
pub record AreDrawn (seed count bound : ℕ) (ranks : List ℕ) : Type 0 where
  pub some : 0 < bound
  pub same : IsPermutation (drawn_by seed bound count) ranks
  pub rising : IsNonDecreasingBy (λ r. r) ranks

-- the word stands for this rank below the bound
abbrev pub StandsFor : ℕ → ℕ → ℕ → Type 0
StandsFor bound rank word = (word < 2 ^ 64) × (rank ≡ rank_by bound word)

-- for each rank below the bound as many words stand as for any other, up to one
abbrev pub DrawsAreEven : Type 0
DrawsAreEven =
    (bound rank : ℕ) → rank < bound
    → (n : ℕ) × IsNumberOf (StandsFor bound rank) n × ((n ≡ 2 ^ 64 / bound) ⊎ (n ≡ 2 ^ 64 / bound + 1))
