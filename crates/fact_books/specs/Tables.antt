-- Tables of outcomes that grow.
use Rattle.std.specs.Prelude.{◌≡◌, ℕ, ◌<◌, List, [], ◌∷◌, ◌++◌, length, slice_index_or}
use Rattle.fact_books.specs.Runs.{Table}

-- the table with more outcomes behind it
abbrev pub Extends : Table → Table → Type 0
Extends old new = (more : Table) × (new ≡ old ++ more)

-- the numbers name these outcomes in the table
abbrev pub Names : Table → List ℕ → Table → Type 0
Names table [] [] = Unit {0}
Names table [] (o ∷ os) = ⊥
Names table (n ∷ ns) [] = ⊥
Names table (n ∷ ns) (o ∷ os) = (n < length table) × (slice_index_or table n [] ≡ o) × Names table ns os
