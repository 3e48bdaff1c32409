-- What a session has written over the committed rows.
use Rattle.std.specs.Prelude.{List, [], ◌∷◌, Option, Some, None}
use Rattle.finite_maps.specs.Map
use Rattle.finite_maps.specs.Map.{Map, insert, entries}
use Rattle.lock_modes.specs.RowPlace.{RowPlace, place_order}
use Rattle.lock_modes.specs.Rows.{Tuple, Rows', Write}

-- at each place that was written the row that was left there, or none
abbrev pub Overlay : Type 0
Overlay = Map place_order (Option Tuple)

-- one entry of an overlay laid over the rows
abbrev pub laid : RowPlace → Option Tuple → Rows' → Rows'
laid p None rows = Map.remove rows p
laid p (Some row) rows = insert rows p row

abbrev pub lay_entries : List (RowPlace × Option Tuple) → Rows' → Rows'
lay_entries [] rows = rows
lay_entries (e ∷ es) rows = laid e.0 e.1 (lay_entries es rows)

-- the overlay laid over the rows
unfoldable pub lay : Overlay → Rows' → Rows'
lay o rows = lay_entries (entries o) rows

abbrev pub written : List Write → Overlay → Overlay
written [] o = o
written (w ∷ ws) o = written ws (insert o w.place w.left)
