-- Rows that become more alone, with marks. No public clause cites this module.
use Rattle.std.specs.Prelude.{ℕ, ◌≤◌, List, length, map, reverse, take, All, AllPairs}
use Rattle.lock_modes.specs.Rows.{Tuple}
use Rattle.marked_lists.specs.Versions.{Versions}

-- the rows at marks, of which the newest is the last, by how many there were
abbrev pub rows_at : List Tuple → List ℕ → List (List Tuple)
rows_at rows marks = reverse (map (λ n. take n rows) marks)

-- the rows now and at marks
abbrev pub pool_of : List Tuple → List ℕ → Versions Tuple
pool_of rows marks = record { list = rows; marked = rows_at rows marks }

-- there were no more rows than there are
abbrev pub AreThere : List Tuple → ℕ → Type 0
AreThere rows n = n ≤ length rows

abbrev pub AreNoMore : ℕ → ℕ → Type 0
AreNoMore older newer = older ≤ newer

-- at marks there were no more rows than now, and at older ones no more than at newer ones
pub record IsPool (rows : List Tuple) (marks : List ℕ) : Type 0 where
  pub few : All (AreThere rows) marks
  pub rising : AllPairs AreNoMore marks
