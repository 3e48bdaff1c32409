-- Outcomes that runs name get new numbers: their places among those that rise.
use Rattle.std.specs.Prelude.{◌≡◌, ℕ, ◌<◌, Bool, true, false, List, [], length, slice_index_or}
use Rattle.std.specs.List.{Contains}
use Rattle.fact_books.specs.declared.run.Run.{Run}
use Rattle.fact_books.specs.Entries.{Told}
use Rattle.fact_books.specs.Runs.{Table}
use Rattle.book_format.specs.Forms.{IsNamed}

abbrev pub IsFlagged : List Bool → ℕ → Type 0
IsFlagged flags n = slice_index_or flags n false ≡ true

-- a run names the outcomes that have a flag
pub record AreFlags (runs : List Run) (flags : List Bool) : Type 0 where
  pub each : (n : ℕ) → IsNamed n runs → IsFlagged flags n
  pub only : (n : ℕ) → IsFlagged flags n → IsNamed n runs

-- these are the outcomes that have a flag
pub record AreFlagged (outcomes : Table) (flags : List Bool) (out : Table) : Type 0 where
  pub each : (n : ℕ) → n < length outcomes → IsFlagged flags n → Contains out (slice_index_or outcomes n [])
  pub only : (o : Told) → Contains out o → (n : ℕ) × (n < length outcomes) × IsFlagged flags n × (slice_index_or outcomes n [] ≡ o)

-- the place of the outcome, if it is there
abbrev pub IsNumber : Table → Told → ℕ → Type 0
IsNumber named o n = Contains named o → (n < length named) × (slice_index_or named n [] ≡ o)

-- the place of each outcome, if it is there
pub record AreNumbers (outcomes named : Table) (numbers : List ℕ) : Type 0 where
  pub count_is : length numbers ≡ length outcomes
  pub each : (n : ℕ) → n < length outcomes → IsNumber named (slice_index_or outcomes n []) (slice_index_or numbers n 0)
