-- Numbers of orders, which are known by their ranks.
use Rattle.std.specs.Prelude.{◌≡◌, ◌↔◌, ℕ, suc, ◌≤◌, List, [], ◌∷◌, length}
use Rattle.lock_queues.specs.Reasons.{Among}

-- the numbers rise from the first on
abbrev pub RiseFrom : ℕ → List ℕ → Type 0
RiseFrom low [] = Unit {0}
RiseFrom low (r ∷ rs) = (low ≤ r) × RiseFrom (suc r) rs

-- it is so of this many ranks: these, each once, and no others
pub record IsNumberOf (IsSo : ℕ → Type 0) (n : ℕ) : Type 0 where
  pub ranks : List ℕ
  pub rise : RiseFrom 0 ranks
  pub has : (r : ℕ) → Among r ranks ↔ IsSo r
  pub count : length ranks ≡ n

-- it is so of this rank, and of none below it
pub record IsLeastOf (IsSo : ℕ → Type 0) (r : ℕ) : Type 0 where
  pub is_so : IsSo r
  pub least : (q : ℕ) → IsSo q → r ≤ q
