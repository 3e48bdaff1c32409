-- Outcomes that are known by numbers, as a walk has them.
use Rattle.std.specs.Prelude.{◌≡◌, ℕ, ◌<◌, List, [], ◌∷◌, ◌++◌, All, map, Some, slice_get, slice_index_or, ◌⊎◌}
use Rattle.fact_books.specs.Entries.{Told}
use Rattle.fact_books.specs.Runs.{Table}
use Rattle.fact_books.specs.declared.known.Known.{Known}

-- the outcome is known by the number
abbrev pub IsKnown : List (ℕ × Told) → ℕ → Told → Type 0
IsKnown known n outcome = (k : ℕ) × (slice_get known k ≡ Some (n, outcome))

-- the number names no other outcome
abbrev pub MayName : List (ℕ × Told) → ℕ → Told → Type 0
MayName known n outcome = (other : Told) → IsKnown known n other → other ≡ outcome

-- nothing more is known, or the outcome by the number
abbrev pub KnowsAtMost : List (ℕ × Told) → ℕ → Told → List (ℕ × Told) → Type 0
KnowsAtMost old n outcome new = (new ≡ old) ⊎ (new ≡ old ++ (n, outcome) ∷ [])

-- ---- places in a table

-- the outcomes at places in a table, each with its number
abbrev pub known_in : Table → List Known → List (ℕ × Told)
known_in table places = map (λ (e : Known). (e.number, slice_index_or table e.place [])) places

-- each place is one of so many
abbrev pub AreInside : ℕ → List Known → Type 0
AreInside size places = All (λ (e : Known). e.place < size) places
