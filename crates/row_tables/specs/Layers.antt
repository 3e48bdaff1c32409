-- Committed rows with an overlay for each session, and the steps of a store over them.
use Rattle.std.specs.Prelude.{◌≡◌, ◌≢◌, ℕ, cond, List, [], ◌∷◌, Option, None}
use Rattle.std.specs.Option.{unwrap_or}
use Rattle.std.specs.Ordering.{nat_cmp, eq_by_cmp}
use Rattle.finite_maps.specs.Map
use Rattle.finite_maps.specs.Map.{Order, Map, same_key, get, insert, keep, empty, entries}
use Rattle.finite_maps.specs.Numbers.{nat_order}
use Rattle.lock_modes.specs.RowPlace.{RowPlace}
use Rattle.lock_modes.specs.Rows.{Tuple, Rows'}
use Rattle.lock_modes.specs.declared.value.Value.{Value}
use Rattle.row_tables.specs.Overlay.{Overlay, lay}

-- sessions by their number
abbrev pub session_order : Order ℕ
session_order = nat_order

-- the committed rows, and an overlay for each session that has writes of its own
pub record Layers : Type 0 where
  pub committed : Rows'
  pub overlays : Map session_order Overlay

-- a session's overlay, empty where it has none
abbrev pub overlay_of : ℕ → Layers → Overlay
overlay_of session l = unwrap_or (get l.overlays session) empty

-- what a session sees: its overlay laid over the committed rows
abbrev pub sight : ℕ → Layers → Rows'
sight session l = lay (overlay_of session l) l.committed

-- no other session has written at the place
abbrev pub IsOnlyWriterAt : ℕ → RowPlace → Layers → Type 0
IsOnlyWriterAt session place l = (other : ℕ) → other ≢ session → get (overlay_of other l) place ≡ None

-- no other session has written in the table
abbrev pub IsOnlyWriterIn : ℕ → ℕ → Layers → Type 0
IsOnlyWriterIn session table l = (key : Value) → IsOnlyWriterAt session (table, key) l

-- nothing committed and nothing written
abbrev pub no_rows : Layers
no_rows = record { committed = empty; overlays = empty }

-- the session has left a row, or none, at the place
abbrev pub wrote : ℕ → RowPlace → Option Tuple → Layers → Layers
wrote session place left l = record l { overlays = insert l.overlays session (insert (overlay_of session l) place left) }

-- the session's overlay is dropped
abbrev pub undone : ℕ → Layers → Layers
undone session l = record l { overlays = Map.remove l.overlays session }

-- another session's overlay is dropped
abbrev pub undone_unless : ℕ → ℕ → Layers → Layers
undone_unless session other l = cond (eq_by_cmp nat_cmp other session) l (undone other l)

-- the session's overlay is laid over the committed rows for good
abbrev pub kept : ℕ → Layers → Layers
kept session l = record { committed = sight session l; overlays = Map.remove l.overlays session }

-- as if no other session had written
abbrev pub only : ℕ → Layers → Layers
only session l = record l { overlays = keep (λ c. same_key session_order c session) l.overlays }

abbrev pub rows_in : ℕ → List (RowPlace × Tuple) → List (Value × Tuple)
rows_in table [] = []
rows_in table (e ∷ es) = cond (eq_by_cmp nat_cmp table e.0.0) ((e.0.1, e.1) ∷ rows_in table es) (rows_in table es)

-- the rows of a table in the order of their keys
abbrev pub rows_of : ℕ → Rows' → List (Value × Tuple)
rows_of table rows = rows_in table (entries rows)
