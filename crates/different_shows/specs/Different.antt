-- What is shown, each once, under numbers.
use Rattle.std.specs.Prelude.{◌≡◌, ◌↔◌, ℕ, ◌⊎◌, List, [], ◌∷◌, ◌++◌, length, slice_get, Some}
use Rattle.std.specs.Map.{lookup}
use Rattle.std.specs.BTreeMap.{is_at}
use Rattle.order_classes.specs.Order.{shows_cmp}
use Rattle.order_classes.specs.declared.shows.Shows.{Shows}

-- no two numbers have the same
abbrev pub AreDifferent : List Shows → Type 0
AreDifferent all = (n m : ℕ) (s : Shows) → slice_get all n ≡ Some s → slice_get all m ≡ Some s → n ≡ m

-- the number of what is shown, which stands there, or stands behind the others now
pub record HasNumber (old new : List Shows) (s : Shows) (n : ℕ) : Type 0 where
  pub at : slice_get new n ≡ Some s
  pub grown : (new ≡ old) ⊎ ((n ≡ length old) × (new ≡ old ++ s ∷ []))

-- each is found under the number of its place, and nothing else is
abbrev pub AreNumbered : List Shows → List (Shows × ℕ) → Type 0
AreNumbered all numbers = (s : Shows) (n : ℕ) → (lookup (is_at (shows_cmp s)) numbers ≡ Some n) ↔ (slice_get all n ≡ Some s)
