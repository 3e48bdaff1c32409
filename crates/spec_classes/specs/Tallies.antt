-- What is counted of each number. No public clause cites this module.
use Rattle.std.specs.Prelude.{◌≡◌, ℕ, ◌+◌, ◌<◌, ◌≤◌, ◌==◌, ◌||◌, ◌^◌, cond, Bool, nat_lt, List, [], ◌∷◌, Some, length, slice_get, sum_by}
use Rattle.std.specs.List.{filter}
use Rattle.std.specs.List.Sorted.{IsPermutation, IsNonDecreasingBy}
use Rattle.path_counts.specs.Paths.{Has}
use Rattle.bound_specs.specs.Spec.{Spec}
use Rattle.spec_schedules.specs.declared.kind.Kind.{Kind}
use Rattle.spec_schedules.specs.Ranked.{IsOrderAt}
use Rattle.order_classes.specs.declared.shows.Shows.{Shows}
use Rattle.schedule_counts.specs.declared.counting.FinalState.{FinalState}
use Rattle.schedule_counts.specs.Classes.{count_of, total_count}
use Rattle.spec_classes.specs.declared.tallies.Tally.{Tally}
use Rattle.spec_classes.specs.declared.classes.OrderClass.{OrderClass}

-- the tally of the states with this number: their counts together, and the least of their first ranks
pub record IsTallyOf (n : ℕ) (states : List FinalState) (t : Tally) : Type 0 where
  pub number : t.number ≡ n
  pub count : t.count ≡ count_of n states
  pub below : (f : FinalState) → Has f states → f.shows ≡ n → t.first ≤ f.first
  pub met : 0 < t.count → (f : FinalState) × Has f states × (f.shows ≡ n) × (t.first ≡ f.first)

-- one of each number below
pub record AreTallies (numbers : ℕ) (states : List FinalState) (ts : List Tally) : Type 0 where
  pub long : length ts ≡ numbers
  pub each : (n : ℕ) (t : Tally) → slice_get ts n ≡ Some t → IsTallyOf n states t
  pub sum : sum_by (λ t. t.count) ts ≡ total_count states

-- each state counts something, under a number below
pub record AreCountable (numbers : ℕ) (states : List FinalState) : Type 0 where
  pub within : (f : FinalState) → Has f states → f.shows < numbers
  pub some : (f : FinalState) → Has f states → 0 < f.count

-- the class tells what the tally does, with the order of its first rank
pub record IsToldBy (kind : Kind) (run : Spec) (shown : List Shows) (t : Tally) (c : OrderClass) : Type 0 where
  pub shows : slice_get shown t.number ≡ Some c.shows
  pub count : c.count ≡ t.count
  pub first : c.first ≡ t.first
  pub line : IsOrderAt kind run c.first c.line.items

-- a class of each tally, in their order
abbrev pub AreToldBy : Kind → Spec → List Shows → List Tally → List OrderClass → Type 0
AreToldBy kind run shown [] [] = Unit {0}
AreToldBy kind run shown [] (c ∷ cs) = ⊥
AreToldBy kind run shown (t ∷ ts) [] = ⊥
AreToldBy kind run shown (t ∷ ts) (c ∷ cs) = IsToldBy kind run shown t c × AreToldBy kind run shown ts cs

-- the tally counts something
abbrev pub is_counted : Tally → Bool
is_counted t = nat_lt 0 t.count

-- the tallies that count something, by their first ranks
pub record AreInTurn (ts us : List Tally) : Type 0 where
  pub same : IsPermutation (filter is_counted ts) us
  pub sorted : IsNonDecreasingBy (λ t. t.first) us

-- its number has something shown, and its first rank an order
pub record IsFound (kind : Kind) (run : Spec) (shown : List Shows) (t : Tally) : Type 0 where
  pub number : t.number < length shown
  pub first : (ks : List ℕ) × IsOrderAt kind run t.first ks

-- classes can be told by the states
pub record AreTellable (kind : Kind) (run : Spec) (numbers : ℕ) (states : List FinalState) : Type 0 where
  pub countable : AreCountable numbers states
  pub few : total_count states < 2 ^ 63
  pub firsts : (f : FinalState) → Has f states → (ks : List ℕ) × IsOrderAt kind run f.first ks

-- a class of each number that a state shows, in the order of their first ranks
pub record AreClassesBy (kind : Kind) (run : Spec) (shown : List Shows) (states : List FinalState) (cs : List OrderClass) : Type 0 where
  pub tallies : List Tally
  pub turn : List Tally
  pub tallied : AreTallies (length shown) states tallies
  pub in_turn : AreInTurn tallies turn
  pub told : AreToldBy kind run shown turn cs

-- the tally with the orders of one state more
abbrev pub joined : Tally → FinalState → Tally
joined t f = record {
  number = t.number;
  count = t.count + f.count;
  first = cond ((t.count == 0) || nat_lt f.first t.first) f.first t.first;
}
