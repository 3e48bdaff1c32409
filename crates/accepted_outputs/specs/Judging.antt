-- Judgements of a report by accepted ones: the first that is equal, or else where each of them differs first.
use Rattle.std.specs.Prelude.{◌≡◌, ◌≢◌, ℕ, ◌<◌, List, Option, Some, None, slice_get}
use Rattle.std.specs.List.{AllZip}
use Rattle.fact_books.specs.Entries.{Told}
use Rattle.accepted_outputs.specs.declared.verdict.Verdict.{Verdict}
use Rattle.accepted_outputs.specs.declared.verdict.Verdict.TheVariants.{Matches, Differs}

-- the first place at which two lists differ: before it they agree, and there they have different items, or one of them has ended
pub record DifferFirstAt {A : Type 0} (xs ys : List A) (place : ℕ) : Type 0 where
  pub before : (n : ℕ) → n < place → slice_get xs n ≡ slice_get ys n
  pub there : slice_get xs place ≢ slice_get ys place

-- the first session that differs at a rank: 0 where one of the reports has ended
abbrev pub IsFirstSession : Option Told → Option Told → ℕ → Type 0
IsFirstSession (Some told) (Some other) session = DifferFirstAt told other session
IsFirstSession (Some told) None session = session ≡ 0
IsFirstSession None other session = session ≡ 0

-- the first rank at which two reports differ, and there the first session
pub record IsFirstDifference (report other : List Told) (difference : ℕ × ℕ) : Type 0 where
  pub rank : DifferFirstAt report other difference.0
  pub session : IsFirstSession (slice_get report difference.0) (slice_get other difference.0) difference.1

-- the first of the accepted reports that is equal, or else for each of them its first difference
abbrev pub IsVerdict : List Told → List (List Told) → Verdict → Type 0
IsVerdict report accepted (Matches index) = (slice_get accepted index ≡ Some report) × ((n : ℕ) → n < index → slice_get accepted n ≢ Some report)
IsVerdict report accepted (Differs differences) = AllZip (IsFirstDifference report) accepted differences

-- ---- steps on the way

-- where two lists differ first, if they do
abbrev pub IsFirstPlace : {A : Type 0} → List A → List A → Option ℕ → Type 0
IsFirstPlace xs ys None = xs ≡ ys
IsFirstPlace xs ys (Some place) = DifferFirstAt xs ys place

-- where two reports differ first, if they do
abbrev pub IsComparison : List Told → List Told → Option (ℕ × ℕ) → Type 0
IsComparison report other None = report ≡ other
IsComparison report other (Some difference) = IsFirstDifference report other difference
