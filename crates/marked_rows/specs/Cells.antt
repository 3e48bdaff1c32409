-- The rows that sessions see, by a cell for each place that was ever written.
use Rattle.std.specs.Prelude.{ℕ, cond, ◌==◌, List, [], ◌∷◌, get_or, slice_get, Option, Some, None}
use Rattle.lock_modes.specs.RowPlace.{RowPlace}
use Rattle.lock_modes.specs.Rows.{Tuple}
use Rattle.row_tables.specs.Overlay.{laid}
use Rattle.row_tables.specs.Layers.{Layers, no_rows, wrote}
use Rattle.marked_rows.specs.declared.cell.Cell.{Cell}
use Rattle.marked_rows.specs.declared.cell.Left.{Left}

-- the rows now, and at the marks that stand, the newest first
pub record MarkedRows : Type 0 where
  pub now : Layers
  pub marked : List Layers

-- ---- cells

-- the row with a number, or none
abbrev pub row_with : List Tuple → Option ℕ → Option Tuple
row_with rows None = None
row_with rows (Some number) = slice_get rows number

-- no row, and nothing written
abbrev pub blank : Cell
blank = record { committed = None; left = None }

-- what a session sees: what it has left itself, or else what is committed
abbrev pub seen_over : ℕ → Option ℕ → Option Left → Option ℕ
seen_over session committed None = committed
seen_over session committed (Some left) = cond (left.session == session) left.row committed

abbrev pub seen : ℕ → Cell → Option ℕ
seen session cell = seen_over session cell.committed cell.left

-- the layers with a row, or none, committed at a place
abbrev pub committed_at : RowPlace → Option Tuple → Layers → Layers
committed_at place row l = record l { committed = laid place row l.committed }

-- and with what a session has left there, if one has
abbrev pub left_at : List Tuple → RowPlace → Option Left → Layers → Layers
left_at rows place None l = l
left_at rows place (Some left) l = wrote left.session place (row_with rows left.row) l

-- the layers with what lies at a place
abbrev pub with_cell : List Tuple → RowPlace → Cell → Layers → Layers
with_cell rows place cell l = left_at rows place cell.left (committed_at place (row_with rows cell.committed) l)

-- the layers of places, each with the number of its cell; a cell that is not there is blank
unfoldable pub layers_of : List Tuple → List Cell → List (RowPlace × ℕ) → Layers
layers_of rows cells [] = no_rows
layers_of rows cells (e ∷ es) = with_cell rows e.0 (get_or cells e.1 blank) (layers_of rows cells es)

-- the layers at marks
abbrev pub layers_at : List (RowPlace × ℕ) → List (List Tuple) → List (List Cell) → List Layers
layers_at es [] marked = []
layers_at es (rows ∷ more) [] = []
layers_at es (rows ∷ more) (cells ∷ marked) = layers_of rows cells es ∷ layers_at es more marked
