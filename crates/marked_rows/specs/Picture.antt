-- A picture of rows: what lies at each place, with rows in the place of their numbers.
use Rattle.std.specs.Prelude.{ℕ, suc, List, [], ◌∷◌, ◌++◌, map, get_or, Option, Some, None}
use Rattle.lock_modes.specs.RowPlace.{RowPlace}
use Rattle.lock_modes.specs.Rows.{Tuple}
use Rattle.lock_modes.specs.declared.value.Value.{Value}
use Rattle.row_tables.specs.Layers.{Layers, no_rows, wrote}
use Rattle.marked_rows.specs.Cells.{blank, committed_at, row_with}
use Rattle.marked_rows.specs.declared.cell.Cell.{Cell}
use Rattle.marked_rows.specs.declared.cell.Left.{Left}
use Rattle.marked_rows.specs.declared.picture.PicturedCell.{PicturedCell}
use Rattle.marked_rows.specs.declared.picture.PicturedLeft.{PicturedLeft}
use Rattle.marked_rows.specs.declared.places.KeyedCell.{KeyedCell}

-- ---- the layers of a picture

-- the layers with what a session had left at a place, if one had
abbrev pub with_left : RowPlace → Option PicturedLeft → Layers → Layers
with_left place None l = l
with_left place (Some left) l = wrote left.session place left.row l

-- the layers with what lay at a place
abbrev pub with_pictured : PicturedCell → Layers → Layers
with_pictured c l = with_left (c.table, c.key) c.left (committed_at (c.table, c.key) c.committed l)

-- the layers of what lay at places
unfoldable pub layers_in : List PicturedCell → Layers
layers_in [] = no_rows
layers_in (c ∷ cs) = with_pictured c (layers_in cs)

-- ---- the picture of cells

-- what a session has left, with the row in the place of its number
abbrev pub left_with : List Tuple → Option Left → Option PicturedLeft
left_with rows None = None
left_with rows (Some left) = Some (record { session = left.session; row = row_with rows left.row })

-- what lies at a key of a table
abbrev pub pictured : List Tuple → ℕ → Value → Cell → PicturedCell
pictured rows table key cell = record { table = table; key = key; committed = row_with rows cell.committed; left = left_with rows cell.left }

-- what lies at a key with its cell; a cell that is not there is blank
abbrev pub pictured_at : List Tuple → List Cell → ℕ → KeyedCell → PicturedCell
pictured_at rows cells table e = pictured rows table e.key (get_or cells e.cell blank)

-- what lies at the keys of a table
abbrev pub pictured_in : List Tuple → List Cell → ℕ → List KeyedCell → List PicturedCell
pictured_in rows cells table es = map (pictured_at rows cells table) es

-- what lies at the keys of tables from this number on, table behind table
abbrev pub pictured_from : List Tuple → List Cell → ℕ → List (List KeyedCell) → List PicturedCell
pictured_from rows cells table [] = []
pictured_from rows cells table (es ∷ rest) = pictured_in rows cells table es ++ pictured_from rows cells (suc table) rest
