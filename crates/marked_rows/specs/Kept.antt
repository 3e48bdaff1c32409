-- How rows are kept so that what a session wrote is found at once. No clause of `MarkedRows` cites this module.
use Rattle.std.specs.Prelude.{◌≡◌, ◌<◌, ◌≤◌, ◌⊎◌, ◌==◌, ℕ, zero, suc, ◌+◌, Bool, true, false}
use Rattle.std.specs.Prelude.{cond, List, [], ◌∷◌, ◌++◌, length, get_or, set, All, Option, Some, None}
use Rattle.std.specs.List.{list_all}
use Rattle.lock_modes.specs.Rows.{Tuple}
use Rattle.row_tables.specs.Layers.{Layers, kept, undone}
use Rattle.marked_lists.specs.Versions.{Versions}
use Rattle.marked_rows.specs.Cells.{MarkedRows, blank, layers_at, layers_of}
use Rattle.marked_rows.specs.Places.{AreApart, Index, IsBefore}
use Rattle.marked_rows.specs.declared.cell.Cell.{Cell}
use Rattle.marked_rows.specs.declared.cell.Left.{Left}
use Rattle.marked_rows.specs.declared.cell.Written.{Written}
use Rattle.marked_rows.specs.declared.cell.Ending.{Ending}
use Rattle.marked_rows.specs.declared.cell.Ending.TheVariants.{Keep, Undo}

-- ---- which cells are whose

abbrev pub is_left_by : ℕ → Option Left → Bool
is_left_by session None = false
is_left_by session (Some left) = left.session == session

-- the session has written there
abbrev pub is_of : ℕ → Cell → Bool
is_of session cell = is_left_by session cell.left

abbrev pub is_of_at : List Cell → ℕ → ℕ → Bool
is_of_at cells session place = is_of session (get_or cells place blank)

-- it is noted that the session has written at the cell
abbrev pub IsWritten : List Written → ℕ → ℕ → Type 0
IsWritten [] session place = ⊥
IsWritten (w ∷ ws) session place = ((w.session ≡ session) × (w.cell ≡ place)) ⊎ IsWritten ws session place

-- what is noted where a session writes at a cell
abbrev pub noted : List Written → Cell → ℕ → ℕ → List Written
noted written cell session place = cond (is_of session cell) written (written ++ record { session = session; cell = place } ∷ [])

-- ---- the end of a session's writes

abbrev pub with_end : Ending → Option ℕ → Left → Cell
with_end Keep committed left = record { committed = left.row; left = None }
with_end Undo committed left = record { committed = committed; left = None }

abbrev pub ended_by : ℕ → Ending → Option ℕ → Option Left → Cell
ended_by session ending committed None = record { committed = committed; left = None }
ended_by session ending committed (Some left) = cond (left.session == session) (with_end ending committed left) (record { committed = committed; left = Some left })

-- the cell behind the end of a session's writes
abbrev pub ended : ℕ → Ending → Cell → Cell
ended session ending cell = ended_by session ending cell.committed cell.left

-- the layers behind the end of a session's writes
abbrev pub ended_layers : Ending → ℕ → Layers → Layers
ended_layers Keep session l = kept session l
ended_layers Undo session l = undone session l

abbrev pub ended_at : ℕ → Ending → Written → List Cell → List Cell
ended_at session ending w cells = cond (w.session == session) (set cells w.cell (ended session ending (get_or cells w.cell blank))) cells

-- the cells behind the end of what is noted
abbrev pub ended_in : ℕ → Ending → List Written → List Cell → List Cell
ended_in session ending [] cells = cells
ended_in session ending (w ∷ ws) cells = ended_in session ending ws (ended_at session ending w cells)

-- nothing is forgotten, or all that was noted, where it was of the session
abbrev pub Forgets : ℕ → Versions Written → Versions Written → Type 0
Forgets session old new = (new ≡ old) ⊎ ((list_all (λ (w : Written). w.session == session) old.list ≡ true) × (new ≡ record old { list = [] }))

-- ---- what is kept

-- a row that is there, or none
abbrev pub IsNumber : List Tuple → Option ℕ → Type 0
IsNumber rows None = Unit {0}
IsNumber rows (Some number) = number < length rows

abbrev pub IsLeft : List Tuple → Option Left → Type 0
IsLeft rows None = Unit {0}
IsLeft rows (Some left) = IsNumber rows left.row

-- the rows of the cell are there
abbrev pub HasRows : List Tuple → Cell → Type 0
HasRows rows cell = IsNumber rows cell.committed × IsLeft rows cell.left

abbrev pub IsInside : List Cell → Written → Type 0
IsInside cells w = w.cell < length cells

-- no cell is numbered past those of places, their rows are there, what is noted is of cells, and what was written is noted
pub record IsKeptAt (next : ℕ) (rows : List Tuple) (cells : List Cell) (written : List Written) : Type 0 where
  pub few : length cells ≤ next
  pub there : All (HasRows rows) cells
  pub inside : All (IsInside cells) written
  pub complete : (place session : ℕ) → is_of_at cells session place ≡ true → IsWritten written session place

-- so it is at each mark
abbrev pub AreKept : ℕ → List (List Tuple) → List (List Cell) → List (List Written) → Type 0
AreKept next [] [] [] = Unit {0}
AreKept next (rows ∷ more) (cells ∷ marked) (written ∷ others) = IsKeptAt next rows cells written × AreKept next more marked others
AreKept next more marked others = ⊥

-- and now, and no place is there twice
pub record IsKept (index : Index) (rows : Versions Tuple) (cells : Versions Cell) (written : Versions Written) : Type 0 where
  pub apart : AreApart index.entries
  pub before : All (IsBefore index.next) index.entries
  pub now : IsKeptAt index.next rows.list cells.list written.list
  pub marked : AreKept index.next rows.marked cells.marked written.marked

abbrev pub seen_rows : Index → Versions Tuple → Versions Cell → MarkedRows
seen_rows index rows cells = record { now = layers_of rows.list cells.list index.entries; marked = layers_at index.entries rows.marked cells.marked }

-- ---- cells that are not there yet

-- so many blank cells
abbrev pub blanks : ℕ → List Cell
blanks zero = []
blanks (suc n) = blank ∷ blanks n

-- there are as many cells as before, or blank ones more, so many at most that the one with this number is the last
pub record HasBlanks (place : ℕ) (old new : Versions Cell) : Type 0 where
  pub count : ℕ
  pub is : new ≡ record old { list = old.list ++ blanks count }
  pub few : (length new.list ≤ length old.list) ⊎ (length new.list ≤ place + 1)
