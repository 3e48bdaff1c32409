-- What rows in place and undo lists stand for. A session's undo list has, for each place where it wrote, what stood there before its first write.
use Rattle.std.specs.Prelude.{◌≡◌, ◌≢◌, ℕ, List, [], ◌∷◌, map, Option, Some, None}
use Rattle.finite_maps.specs.Map.{Map, get, insert, entries, of_entries}
use Rattle.lock_modes.specs.RowPlace.{RowPlace, place_order}
use Rattle.lock_modes.specs.Rows.{Tuple, Rows'}
use Rattle.row_tables.specs.Overlay.{Overlay, lay}
use Rattle.row_tables.specs.Layers.{session_order, Layers}

abbrev pub Lists : Type 0
Lists = Map session_order Overlay

-- what an undo list has at a place, none where its session did not write
abbrev pub before_in : Option Overlay → RowPlace → Option (Option Tuple)
before_in None place = None
before_in (Some list) place = get list place

abbrev pub before : Lists → ℕ → RowPlace → Option (Option Tuple)
before lists session place = before_in (get lists session) place

-- the undo list with what stands at a place, unless it has what stood there before
abbrev pub noted : RowPlace → Rows' → Overlay → Overlay
noted place rows list = elim (get list place) [ None ↦ insert list place (get rows place) | Some left ↦ list ]

-- no two sessions wrote at one place
pub record AreApart (lists : Lists) : Type 0 where
  pub each : (session other : ℕ) (place : RowPlace) (left : Option Tuple)
      → other ≢ session → before lists session place ≡ Some left → before lists other place ≡ None

-- the places of an undo list, each with what stands there now
unfoldable pub in_place : Rows' → Overlay → Overlay
in_place rows list = of_entries place_order (map (λ (e : RowPlace × Option Tuple). (e.0, get rows e.0)) (entries list))

-- all undo lists laid over the rows
abbrev pub all_undone : List (ℕ × Overlay) → Rows' → Rows'
all_undone [] rows = rows
all_undone (e ∷ es) rows = lay e.1 (all_undone es rows)

-- the committed rows are those that would stand after all undo lists, and what a session wrote stands in place
unfoldable pub layers : Rows' → Lists → Layers
layers rows lists = record {
  committed = all_undone (entries lists) rows;
  overlays = of_entries session_order (map (λ (e : ℕ × Overlay). (e.0, in_place rows e.1)) (entries lists));
}
