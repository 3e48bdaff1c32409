-- What one session sees where no other has written, asked for another session that has not written there.
use Rattle.std.proofs.Common.{◌≡◌, ◌≢◌, refl, sym, ap, ◌∙◌, ℕ, Bool, true, false, cond, true≢false, Option, None}
use Rattle.finite_maps.specs.Map.{empty, get, get-empty, same_key, same_key-refl, same_key-true}
use Rattle.lock_modes.specs.RowPlace.{RowPlace, place_order}
use Rattle.lock_modes.specs.Rows.{Rows', Tuple}
use Rattle.lock_modes.specs.declared.value.Value.{Value}
use Rattle.row_tables.specs.Overlay.{Overlay}
use Rattle.row_tables.specs.Layers.{Layers, session_order, overlay_of, only, sight, rows_of, IsOnlyWriterAt, IsOnlyWriterIn}
use Rattle.row_tables.proofs.OverlayLemmas.{over, get-lay}
use Rattle.row_tables.proofs.LayersLemmas.{overlay_of-only, sight-only}
use Rattle.row_tables.proofs.TableLemmas.{find-rows_of, sorted-rows_of, is_rows_of}

-- at a place where this session alone may have written, the one that is kept sees what this one sees
sight-at : (mine session : ℕ) (l : Layers) (p : RowPlace) → IsOnlyWriterAt session p (only mine l)
    → get (sight mine l) p ≡ get (sight session (only mine l)) p
sight-at mine session l p alone = at (same_key session_order session mine) refl
  where
    -- the one that is kept has written nothing there
    none : session ≢ mine → get (overlay_of mine (only mine l)) p ≡ None
    none ne = alone mine (λ e. ne (sym e))

    at : (b : Bool) → same_key session_order session mine ≡ b → get (sight mine l) p ≡ get (sight session (only mine l)) p
    at true is =
        let same : session ≡ mine = same_key-true session_order session mine is in
        ap (λ (rows : Rows'). get rows p) (sym (sight-only mine l)) ∙ ap (λ s. get (sight s (only mine l)) p) (sym same)
    at false is =
        let ne : session ≢ mine = λ e. true≢false (sym (same_key-refl session_order mine) ∙ ap (λ s. same_key session_order s mine) (sym e) ∙ is) in
        ap (λ (rows : Rows'). get rows p) (sym (sight-only mine l))
        ∙ get-lay (overlay_of mine (only mine l)) l.committed p
        ∙ ap (λ o. over o (get l.committed p)) (none ne)
        ∙ sym (get-lay (overlay_of session (only mine l)) l.committed p
        ∙ ap (λ (o : Overlay). over (get o p) (get l.committed p)) (overlay_of-only mine l session ∙ ap (λ b. cond b (overlay_of session l) empty) is)
        ∙ ap (λ o. over o (get l.committed p)) (get-empty place_order (Option Tuple) p))

pub row-at : (mine session t : ℕ) (key : Value) (l : Layers) → IsOnlyWriterAt session (t, key) (only mine l)
    → get (sight mine l) (t, key) ≡ get (sight session (only mine l)) (t, key)
row-at mine session t key l alone = sight-at mine session l (t, key) alone

-- and so in a table
pub rows-in : (mine session t : ℕ) (l : Layers) → IsOnlyWriterIn session t (only mine l) → rows_of t (sight mine l) ≡ rows_of t (sight session (only mine l))
rows-in mine session t l alone =
    is_rows_of t (sight session (only mine l)) (rows_of t (sight mine l)) (sorted-rows_of t (sight mine l))
    (λ k. find-rows_of t k (sight mine l) ∙ sight-at mine session l (t, k) (alone k))
