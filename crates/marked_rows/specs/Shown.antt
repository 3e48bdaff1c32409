-- The rows of a table that are shown one by one. No public clause cites this module.
use Rattle.std.specs.Prelude.{◌≡◌, ◌<◌, ◌≤◌, ℕ, List, [], ◌∷◌, length, map, get_or, All, Option, Some, None}
use Rattle.lock_modes.specs.Rows.{Tuple}
use Rattle.lock_modes.specs.declared.value.Value.{Value}
use Rattle.marked_rows.specs.Cells.{blank, row_with, seen}
use Rattle.marked_rows.specs.Kept.{IsNumber}
use Rattle.marked_rows.specs.declared.places.KeyedCell.{KeyedCell}
use Rattle.marked_rows.specs.declared.cell.Cell.{Cell}
use Rattle.marked_rows.specs.declared.cell.Sight.{Sight}
use Rattle.marked_rows.specs.declared.cell.Sight.TheVariants.{Committed, Own}

-- the number of the row that is shown of a cell: of what a session sees, or of what is committed
abbrev pub shown_of : Sight → Cell → Option ℕ
shown_of (Own session) cell = seen session cell
shown_of Committed cell = cell.committed

-- the numbers of the rows that are shown of the cells of keys
abbrev pub numbers_of : Sight → List Cell → List KeyedCell → List (Option ℕ)
numbers_of sight cells es = map (λ (e : KeyedCell). shown_of sight (get_or cells e.cell blank)) es

abbrev pub with_row : Value → Option Tuple → List (Value × Tuple) → List (Value × Tuple)
with_row key None rest = rest
with_row key (Some row) rest = (key, row) ∷ rest

-- the rows of numbers, each with its key
abbrev pub shown : List Tuple → List Value → List (Option ℕ) → List (Value × Tuple)
shown rows [] numbers = []
shown rows (key ∷ keys) [] = []
shown rows (key ∷ keys) (number ∷ numbers) = with_row key (row_with rows number) (shown rows keys numbers)

-- from one key up to another there is no row
abbrev pub AreUnseen : List (Option ℕ) → ℕ → ℕ → Type 0
AreUnseen numbers from to = (place : ℕ) → from ≤ place → place < to → get_or numbers place None ≡ None

-- the next key from one on with a row, and the row's number
pub record IsNext (numbers : List (Option ℕ)) (from : ℕ) (next : ℕ × ℕ) : Type 0 where
  pub behind : from ≤ next.0
  pub inside : next.0 < length numbers
  pub number : get_or numbers next.0 None ≡ Some next.1
  pub between : AreUnseen numbers from next.0

-- each key has a number of a row that is there, or none
pub record CanShow (rows : List Tuple) (keys : List Value) (numbers : List (Option ℕ)) : Type 0 where
  pub count : length numbers ≡ length keys
  pub there : All (IsNumber rows) numbers
