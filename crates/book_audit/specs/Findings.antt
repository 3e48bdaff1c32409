-- The facts that runs say, and the least rank at which one of them is not true.
use Rattle.std.specs.Prelude.{◌≡◌, ℕ, ◌<◌, ◌≤◌, min, true, ◌||◌, List, Option, Some, None}
use Rattle.std.specs.List.{list_any}
use Rattle.bound_specs.specs.Spec.{Spec}
use Rattle.rank_facts.specs.Facts.{IsTrueAt}
use Rattle.rank_facts.specs.Values.{Facts, AllTrue}
use Rattle.rank_facts.specs.declared.fact.Fact.{Fact}
use Rattle.fact_books.specs.declared.run.Run.{Run}
use Rattle.fact_books.specs.Runs.{Table, has}
use Rattle.book_audit.specs.declared.finding.Finding.{Finding}
use Rattle.book_audit.specs.declared.finding.Finding.TheVariants.{AllTrue as EachTrue, False, NoMemory}
use Rattle.book_audit.specs.Audit.{HasFalse}

-- what runs say of a rank
abbrev pub said : Table → List Run → Facts
said table runs r fact = list_any (has table (r, fact)) runs

-- and one more run
abbrev pub with_said : Facts → Table → Run → Facts
with_said facts table run r fact = facts r fact || has table (r, fact) run

-- the least of these ranks, from the first up to but not the end, at which the fact is not true; none where it is true at each
abbrev pub IsFirstFalse : Spec → Fact → ℕ → ℕ → Option ℕ → Type 0
IsFirstFalse spec fact first end None = (r : ℕ) → first ≤ r → r < end → IsTrueAt spec r fact
IsFirstFalse spec fact first end (Some rank) =
    (first ≤ rank) × (rank < end) × (IsTrueAt spec rank fact → ⊥) × ((r : ℕ) → first ≤ r → r < rank → IsTrueAt spec r fact)

-- each fact of a lower rank is true
abbrev pub AllTrueBelow : Spec → Facts → ℕ → Type 0
AllTrueBelow spec has rank = (r : ℕ) (fact : Fact) → r < rank → has r fact ≡ true → IsTrueAt spec r fact

-- the least rank with a fact that is not true, if there is one
abbrev pub IsLeast : Spec → Facts → Option ℕ → Type 0
IsLeast spec has None = AllTrue spec has
IsLeast spec has (Some rank) = HasFalse spec has rank × AllTrueBelow spec has rank

-- the same as the finding of a piece of work
abbrev pub IsFinding : Spec → Facts → Finding → Type 0
IsFinding spec has EachTrue = AllTrue spec has
IsFinding spec has (False rank) = IsLeast spec has (Some rank)
IsFinding spec has NoMemory = Unit {0}

-- up to where a run is looked at
abbrev pub limit : ℕ → Option ℕ → ℕ
limit end None = end
limit end (Some rank) = min end rank

abbrev pub first_of : Option ℕ → Option ℕ → Option ℕ
first_of None least = least
first_of (Some rank) least = Some rank
