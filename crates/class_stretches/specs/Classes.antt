-- Classes of ranks by what they show.
use Rattle.std.specs.Prelude.{◌≡◌, ℕ, suc, ◌+◌, ◌-◌, ◌<◌, ◌≤◌, Bool, true, false, ◌&&◌, ◌||◌, nat_le, nat_lt, List, [], ◌∷◌, map}
use Rattle.lock_queues.specs.Reasons.{Among}
use Rattle.order_classes.specs.Numbers.{RiseFrom}

-- ranks from the first up to but not the end
pub record Run : Type 0 where
  pub first : ℕ
  pub end : ℕ

abbrev pub in_run : Run → ℕ → Bool
in_run run r = nat_le run.first r && nat_lt r run.end

abbrev pub in_runs : List Run → ℕ → Bool
in_runs [] r = false
in_runs (run ∷ runs) r = in_run run r || in_runs runs r

-- how many ranks they have
abbrev pub ranks_in : List Run → ℕ
ranks_in [] = 0
ranks_in (run ∷ runs) = (run.end - run.first) + ranks_in runs

-- from this rank on: they rise, each has a rank, and between two of them there is one that neither has
abbrev pub AreApart : ℕ → List Run → Type 0
AreApart low [] = Unit {0}
AreApart low (run ∷ runs) = (low ≤ run.first) × (run.first < run.end) × AreApart (suc run.end) runs

pub record Class (A : Type 0) : Type 0 where
  pub least : ℕ
  pub count : ℕ
  pub runs : List Run
  pub shows : A

-- ranks of the range, of which each shows what the class does, with the least of them and their number
pub record IsClass {A : Type 0} (show : ℕ → A → Type 0) (first end : ℕ) (c : Class A) : Type 0 where
  pub apart : AreApart 0 c.runs
  pub within : (r : ℕ) → in_runs c.runs r ≡ true → (first ≤ r) × (r < end) × show r c.shows
  pub has_least : in_runs c.runs c.least ≡ true
  pub is_least : (r : ℕ) → in_runs c.runs r ≡ true → c.least ≤ r
  pub count : c.count ≡ ranks_in c.runs

-- the classes of those ranks of the range that show something: equal within, all such ranks together, two that show the same are one, in the order of their least ranks
pub record AreGroups {A : Type 0} (show : ℕ → A → Type 0) (first end : ℕ) (cs : List (Class A)) : Type 0 where
  pub each : (c : Class A) → Among c cs → IsClass show first end c
  pub together : (r : ℕ) (a : A) → first ≤ r → r < end → show r a → (c : Class A) × Among c cs × (in_runs c.runs r ≡ true)
  pub between : (c d : Class A) → Among c cs → Among d cs → (same : c.shows ≡ d.shows) → c ≡ d
  pub rise : RiseFrom 0 (map (λ (c : Class A). c.least) cs)
