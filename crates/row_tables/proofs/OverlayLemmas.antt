-- Look-ups in rows over which an overlay is laid, and in tests of keys.
use Rattle.std.proofs.Common.{◌≡◌, refl, ap, ◌∙◌, Bool, true, false, cond, ◌&&◌, List, [], ◌∷◌, Option, Some, None}
use Rattle.std.specs.declared.cmp.Ordering.{Ordering}
use Rattle.std.specs.declared.cmp.Ordering.TheVariants.{Less, Equal, Greater}
use Rattle.std.specs.Ordering.{is_eq, is_lt, ordering_then}
use Rattle.std.specs.FinMap.Entries.{find}
use Rattle.finite_maps.specs.Map.{same_key, get, get-insert, get-remove, entries}
use Rattle.lock_modes.specs.RowPlace.{RowPlace, place_order, place_cmp}
use Rattle.lock_modes.specs.Rows.{Tuple, Rows'}
use Rattle.row_tables.specs.Overlay.{Overlay, laid, lay, lay_entries}

-- what an overlay has at a place, or else the row below it
abbrev pub over : Option (Option Tuple) → Option Tuple → Option Tuple
over None row = row
over (Some left) row = left

pub get-laid : (place : RowPlace) (left : Option Tuple) (rows : Rows') (q : RowPlace) → get (laid place left rows) q
    ≡ cond (same_key place_order q place) left (get rows q)
get-laid place None rows q = get-remove rows place q
get-laid place (Some row) rows q = get-insert rows place row q

over-cond : (b : Bool) (x : Option Tuple) (o : Option (Option Tuple)) (y : Option Tuple) → cond b x (over o y) ≡ over (cond b (Some x) o) y
over-cond true x o y = refl
over-cond false x o y = refl

get-lay_entries : (es : List (RowPlace × Option Tuple)) (rows : Rows') (q : RowPlace) → get (lay_entries es rows) q ≡ over (find place_cmp q es) (get rows q)
get-lay_entries [] rows q = refl
get-lay_entries (e ∷ es) rows q = get-laid e.0 e.1 (lay_entries es rows) q ∙ ap (cond (same_key place_order q e.0) e.1) (get-lay_entries es rows q)
    ∙ over-cond (same_key place_order q e.0) e.1 (find place_cmp q es) (get rows q)

pub get-lay : (o : Overlay) (rows : Rows') (q : RowPlace) → get (lay o rows) q ≡ over (get o q) (get rows q)
unfolding lay get entries
get-lay o rows q = get-lay_entries o.list rows q

-- two orderings in turn tie where both do
pub is_eq-then : (a b : Ordering) → is_eq (ordering_then a b) ≡ (is_eq a && is_eq b)
is_eq-then Less b = refl
is_eq-then Equal b = refl
is_eq-then Greater b = refl

pub is_eq-Equal : (a : Ordering) → is_eq a ≡ true → a ≡ Equal
is_eq-Equal Less h = cc
is_eq-Equal Equal h = refl
is_eq-Equal Greater h = cc

-- where the first ordering ties the second decides
pub is_lt-then : (a b : Ordering) → is_eq a ≡ true → is_lt (ordering_then a b) ≡ is_lt b
is_lt-then Less b h = cc
is_lt-then Equal b h = refl
is_lt-then Greater b h = cc
