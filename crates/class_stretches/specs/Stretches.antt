-- Stretches of ranks with the numbers of their classes.
use Rattle.std.specs.Prelude.{◌≡◌, ℕ, ◌+◌, ◌-◌, ◌<◌, ◌≤◌, ◌==◌, Bool, true, false, nat_lt, cond, Option, Some, None, List, [], ◌∷◌, length, get_or, map}
use Rattle.std.specs.List.{slice_get}
use Rattle.class_stretches.specs.Classes.{Run, ranks_in}
use Rattle.class_stretches.specs.declared.stretch.Stretch.{Stretch}
use Rattle.class_stretches.specs.declared.tally.Tally.{Tally}
use Rattle.class_stretches.specs.declared.rank_run.RankRun.{RankRun}
use Rattle.class_stretches.specs.declared.missing.Missing.{Missing}

-- ---- the class of a rank

-- the class of a rank is that of the first stretch that ends behind it
abbrev pub class_at : List Stretch → ℕ → Option ℕ
class_at [] r = None
class_at (s ∷ ss) r = cond (nat_lt r s.end) s.class (class_at ss r)

-- where stretches end that begin here
abbrev pub end_from : ℕ → List Stretch → ℕ
end_from low [] = low
end_from low (s ∷ ss) = end_from s.end ss

-- the rank behind the last one
abbrev pub end_of : List Stretch → ℕ
end_of ss = end_from 0 ss

-- the ranks from this one on, up to an end, are in one class
pub record IsStretchAt (ss : List Stretch) (rank : ℕ) (s : Stretch) : Type 0 where
  pub some : rank < s.end
  pub inside : s.end ≤ end_of ss
  pub each : (r : ℕ) → rank ≤ r → r < s.end → class_at ss r ≡ s.class

-- both are the same class, or neither is known
abbrev pub same_class : Option ℕ → Option ℕ → Bool
same_class None None = true
same_class None (Some d) = false
same_class (Some c) None = false
same_class (Some c) (Some d) = c == d

-- ---- what is kept

-- the stretches, and how many classes there are
pub record Stretched : Type 0 where
  pub list : List Stretch
  pub classes : ℕ

-- the first of these stretches is of another class
abbrev pub BeginsOther : Option ℕ → List Stretch → Type 0
BeginsOther c [] = Unit {0}
BeginsOther c (s ∷ ss) = same_class c s.class ≡ false

-- from here on: each stretch has a rank, and the next one is of another class
abbrev pub AreStretches : ℕ → List Stretch → Type 0
AreStretches low [] = Unit {0}
AreStretches low (s ∷ ss) = (low < s.end) × BeginsOther s.class ss × AreStretches s.end ss

-- the class is one of so many, the next one, or not known
abbrev pub MayCome : ℕ → Option ℕ → Type 0
MayCome n None = Unit {0}
MayCome n (Some c) = c ≤ n

-- how many classes there are with this one
abbrev pub with_class : ℕ → Option ℕ → ℕ
with_class n None = n
with_class n (Some c) = cond (c == n) (n + 1) n

-- behind so many classes: each stretch is of a class that came before or of the next one, and in the end there are so many
abbrev pub AreInOrder : ℕ → List Stretch → ℕ → Type 0
AreInOrder n [] end = n ≡ end
AreInOrder n (s ∷ ss) end = MayCome n s.class × AreInOrder (with_class n s.class) ss end

pub record IsStretched (s : Stretched) : Type 0 where
  pub stretches : AreStretches 0 s.list
  pub order : AreInOrder 0 s.list s.classes

-- ---- what is added

-- the ranks up to a new end are of this class, and those before are of theirs
pub record IsPushed (old new : Stretched) (end : ℕ) (class : Option ℕ) : Type 0 where
  pub before : (r : ℕ) → r < end_of old.list → class_at new.list r ≡ class_at old.list r
  pub behind : (r : ℕ) → end_of old.list ≤ r → r < end → class_at new.list r ≡ class
  pub ends : end_of new.list ≡ end
  pub classes : new.classes ≡ with_class old.classes class

-- the ranks up to a new end are in the classes of as many ranks from here on, in their order, and those before are in theirs
pub record IsCopied (old new : Stretched) (from end : ℕ) : Type 0 where
  pub before : (r : ℕ) → r < end_of old.list → class_at new.list r ≡ class_at old.list r
  pub behind : (r : ℕ) → end_of old.list ≤ r → r < end → class_at new.list r ≡ class_at old.list (from + (r - end_of old.list))
  pub ends : end_of new.list ≡ end
  pub classes : new.classes ≡ old.classes

-- ---- the runs of a class

-- the runs of the ranks of a class, or of those of no known class, by stretches that begin here
abbrev pub runs_with : Option ℕ → ℕ → List Stretch → List Run
runs_with c low [] = []
runs_with c low (s ∷ ss) = cond (same_class c s.class) (record { first = low; end = s.end } ∷ runs_with c s.end ss) (runs_with c s.end ss)

-- a run as classes have it
abbrev pub run_of : RankRun → Run
run_of run = record { first = run.first; end = run.end }

-- the first rank of runs, if there is one
abbrev pub first_of : List Run → Option ℕ
first_of [] = None
first_of (run ∷ runs) = Some run.first

-- how many ranks the runs have, and the first of them, if they have any
abbrev pub missing_by : List Run → Option Missing
missing_by [] = None
missing_by (run ∷ runs) = Some (record { ranks = ranks_in (run ∷ runs); first = run.first })

abbrev pub least_of : List Run → ℕ
least_of [] = 0
least_of (run ∷ runs) = run.first

-- the least rank of runs, and how many they have
abbrev pub tally_of : List Run → Tally
tally_of runs = record { least = least_of runs; count = ranks_in runs }

-- these are the tallies of so many classes, in the order of their numbers
pub record AreTallies (ss : List Stretch) (classes : ℕ) (tallies : List Tally) : Type 0 where
  pub all : length tallies ≡ classes
  pub each : (n : ℕ) → n < classes → slice_get tallies n ≡ Some (tally_of (runs_with (Some n) 0 ss))

-- these are the runs of so many classes, in the order of their numbers
pub record AreRunsBy (ss : List Stretch) (classes : ℕ) (runs : List (List RankRun)) : Type 0 where
  pub all : length runs ≡ classes
  pub each : (n : ℕ) → n < classes → map run_of (get_or runs n []) ≡ runs_with (Some n) 0 ss
