-- Undo lists: what stood before is noted once, and put back entry by entry.
use Rattle.std.proofs.Common.{◌≡◌, refl, sym, ap, ◌∙◌, true, false, cond, List, [], ◌∷◌, Option, Some, None}
use Rattle.std.specs.Prelude.{T}
use Rattle.std.specs.FinMap.Entries.{find, is_sorted}
use Rattle.finite_maps.specs.Map.{get, insert, entries, empty, get-empty, same_key, same_key-true, same_map, of_entries}
use Rattle.lock_modes.specs.RowPlace.{RowPlace, place_order, place_cmp}
use Rattle.lock_modes.specs.Rows.{Tuple, Rows'}
use Rattle.row_tables.specs.Overlay.{Overlay, laid, lay}
use Rattle.row_tables.specs.Layers.{no_rows}
use Rattle.row_tables.specs.Undo.{before_in, noted, AreApart, layers}
use Rattle.row_tables.proofs.OverlayLemmas.{over, get-laid, get-lay}
use Rattle.row_tables.proofs.UndoLemmas.{front, back, find_below}

-- the entries put back from the first to the last
abbrev pub put_back : List (RowPlace × Option Tuple) → Rows' → Rows'
put_back [] rows = rows
put_back (e ∷ es) rows = put_back es (laid e.0 e.1 rows)

get-put_back : (es : List (RowPlace × Option Tuple)) (rows : Rows') (q : RowPlace) → T (is_sorted place_cmp es) → get (put_back es rows) q
    ≡ over (find place_cmp q es) (get rows q)
get-put_back [] rows q s = refl
get-put_back (e ∷ es) rows q s =
    get-put_back es (laid e.0 e.1 rows) q (back _ _ s)
    ∙ ap (over (find place_cmp q es)) (get-laid e.0 e.1 rows q)
    ∙ elim (same_key place_order q e.0) as (λ b. same_key place_order q e.0 ≡ b → over (find place_cmp q es) (cond b e.1 (get rows q))
    ≡ over (cond b (Some e.1) (find place_cmp q es)) (get rows q)) [
      | true ↦ λ is. ap (λ o. over o e.1) (ap (λ (p : RowPlace). find place_cmp p es) (same_key-true place_order q e.0 is)
          ∙ find_below place_cmp e.0 es (front _ _ s))
      | false ↦ λ is. refl
    ] refl

get-put_back-entries : (list : Overlay) (rows : Rows') (q : RowPlace) → get (put_back (entries list) rows) q ≡ over (get list q) (get rows q)
unfolding entries get
get-put_back-entries list rows q = get-put_back list.list rows q list.sorted

-- the order does not matter, since each place comes once
pub put_back-lay : (list : Overlay) (rows : Rows') → put_back (entries list) rows ≡ lay list rows
put_back-lay list rows = same_map _ _ (λ q. get-put_back-entries list rows q ∙ sym (get-lay list rows q))

-- what stood there is in the list
pub noted-again : (place : RowPlace) (rows : Rows') (list : Overlay) (left : Option Tuple) → get list place ≡ Some left → list ≡ noted place rows list
noted-again place rows list left is = sym (ap (λ (o : Option (Option Tuple)). elim o [ None ↦ insert list place (get rows place) | Some left ↦ list ]) is)

-- what stands there comes into the list
pub noted-first : (place : RowPlace) (rows : Rows') (list : Overlay) → get list place ≡ None → insert list place (get rows place) ≡ noted place rows list
noted-first place rows list is = sym (ap (λ (o : Option (Option Tuple)). elim o [ None ↦ insert list place (get rows place) | Some left ↦ list ]) is)

-- ---- without rows

pub empty-apart : AreApart empty
empty-apart = record { each = λ c d q left ne h. ap (λ o. before_in o q) (get-empty _ Overlay d) }

pub empty-layers : layers empty empty ≡ no_rows
unfolding layers entries empty of_entries
empty-layers = refl
