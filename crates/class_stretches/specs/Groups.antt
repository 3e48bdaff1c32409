-- Classes of ranks by their stretches, and what each of them shows.
use Rattle.std.specs.Prelude.{◌≡◌, ℕ, suc, ◌<◌, ◌≤◌, Bool, true, false, ◌&&◌, nat_lt, Option, Some, None, List, [], ◌∷◌, length, map}
use Rattle.std.specs.List.{slice_get}
use Rattle.class_stretches.specs.Classes.{Class, ranks_in, AreGroups}
use Rattle.order_classes.specs.Numbers.{IsNumberOf}
use Rattle.class_stretches.specs.declared.stretch.Stretch.{Stretch}
use Rattle.class_stretches.specs.declared.tally.Tally.{Tally}
use Rattle.class_stretches.specs.declared.missing.Missing.{Missing}
use Rattle.class_stretches.specs.Stretches.{class_at, end_of, same_class, Stretched, IsStretched, runs_with, least_of, missing_by, AreTallies}

-- class number n, which shows this
abbrev pub class_by : {A : Type 0} → List Stretch → ℕ → A → Class A
class_by ss n a = record {
  least = least_of (runs_with (Some n) 0 ss);
  count = ranks_in (runs_with (Some n) 0 ss);
  runs = runs_with (Some n) 0 ss;
  shows = a;
}

-- the classes from number n on, in their order, by what each of them shows
abbrev pub classes_from : {A : Type 0} → ℕ → List Stretch → List A → List (Class A)
classes_from n ss [] = []
classes_from n ss (a ∷ shows) = class_by ss n a ∷ classes_from (suc n) ss shows

abbrev pub classes_by : {A : Type 0} → List Stretch → List A → List (Class A)
classes_by ss shows = classes_from 0 ss shows

-- what is told of a class
abbrev pub tally_of_class : {A : Type 0} → Class A → Tally
tally_of_class c = record { least = c.least; count = c.count }

-- the rank is in a class that shows this
abbrev pub ShowsBy : {A : Type 0} → List Stretch → List A → ℕ → A → Type 0
ShowsBy ss shows r a = (n : ℕ) × (class_at ss r ≡ Some n) × (slice_get shows n ≡ Some a)

-- no two items are the same
abbrev pub AllDiffer : {A : Type 0} → List A → Type 0
AllDiffer {A} shows = (n m : ℕ) (a : A) → slice_get shows n ≡ Some a → slice_get shows m ≡ Some a → n ≡ m

-- stretches give the groups of the ranks by what their classes show
pub record StretchesAreGroups : Type 0 where
  pub groups : (s : Stretched) (shows : List ℕ) → IsStretched s → length shows ≡ s.classes → AllDiffer shows
      → AreGroups (ShowsBy s.list shows) 0 (end_of s.list) (classes_by s.list shows)

-- where no rank is missing, each one of the range is in a class that there is
pub record NoneIsMissing : Type 0 where
  pub known : (s : Stretched) → IsStretched s → ranks_in (runs_with None 0 s.list) ≡ 0
      → (r : ℕ) → r < end_of s.list → (n : ℕ) × (n < s.classes) × (class_at s.list r ≡ Some n)

-- the rank is before the end, and in no known class
abbrev pub is_missing : List Stretch → ℕ → Bool
is_missing ss r = nat_lt r (end_of ss) && same_class None (class_at ss r)

-- the missing ranks are so many, and this is the least of them
pub record AreMissingRanks (ss : List Stretch) (m : Missing) : Type 0 where
  pub number : IsNumberOf (λ r. is_missing ss r ≡ true) m.ranks
  pub there : is_missing ss m.first ≡ true
  pub least : (r : ℕ) → is_missing ss r ≡ true → m.first ≤ r

-- what is told of the missing ranks: that there is none, or how many, and the least
abbrev pub IsMissingTold : List Stretch → Option Missing → Type 0
IsMissingTold ss None = (r : ℕ) → is_missing ss r ≡ false
IsMissingTold ss (Some m) = AreMissingRanks ss m

-- the runs of no known class tell them
pub record MissingAreTold : Type 0 where
  pub told : (s : Stretched) → IsStretched s → IsMissingTold s.list (missing_by (runs_with None 0 s.list))

-- the tallies are those of the classes, in their order
pub record TalliesAreOfClasses : Type 0 where
  pub tallies : (ss : List Stretch) (shows : List ℕ) (tallies : List Tally) → AreTallies ss (length shows) tallies
      → map tally_of_class (classes_by ss shows) ≡ tallies
