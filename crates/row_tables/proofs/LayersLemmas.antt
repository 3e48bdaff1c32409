-- What the steps of a store make of overlays and of what is seen, for the proofs of the layers above.
use Rattle.std.proofs.Common.{◌≡◌, ◌≢◌, refl, ap, ◌∙◌, ℕ, Bool, true, false, cond, Option, Some, None}
use Rattle.std.specs.Option.{unwrap_or}
use Rattle.finite_maps.specs.Map.{same_key-true, same_key-refl, get, insert, empty, get-empty, get-insert, get-keep, get-remove}
use Rattle.lock_modes.specs.RowPlace.{RowPlace, place_order}
use Rattle.lock_modes.specs.Rows.{Tuple}
use Rattle.row_tables.specs.Overlay.{Overlay, lay}
use Rattle.row_tables.specs.Layers.{Layers, session_order, overlay_of, sight, IsOnlyWriterAt, only, wrote, undone, kept}
use Rattle.row_tables.proofs.UndoLemmas.{same_session}

chosen : (b : Bool) (o : Overlay) (p : Option Overlay) → unwrap_or (cond b (Some o) p) empty ≡ cond b o (unwrap_or p empty)
chosen true o p = refl
chosen false o p = refl

dropped : (b : Bool) (p : Option Overlay) → unwrap_or (cond b None p) empty ≡ cond b empty (unwrap_or p empty)
dropped true p = refl
dropped false p = refl

-- a write changes one entry of the writer's overlay
pub overlay_of-wrote : (session : ℕ) (place : RowPlace) (left : Option Tuple) (l : Layers) (c : ℕ) → overlay_of c (wrote session place left l)
    ≡ cond (same_session c session) (insert (overlay_of session l) place left) (overlay_of c l)
overlay_of-wrote session place left l c = ap (λ o. unwrap_or o empty) (get-insert l.overlays session (insert (overlay_of session l) place left) c)
    ∙ chosen (same_session c session) _ (get l.overlays c)

-- an undo drops one overlay
pub overlay_of-undone : (session : ℕ) (l : Layers) (c : ℕ) → overlay_of c (undone session l) ≡ cond (same_session c session) empty (overlay_of c l)
overlay_of-undone session l c = ap (λ o. unwrap_or o empty) (get-remove l.overlays session c) ∙ dropped (same_session c session) (get l.overlays c)

-- and so does a keep
pub overlay_of-kept : (session : ℕ) (l : Layers) (c : ℕ) → overlay_of c (kept session l) ≡ cond (same_session c session) empty (overlay_of c l)
overlay_of-kept session l c = overlay_of-undone session l c

-- ---- as if no other session had written

left_alone : (b : Bool) (p : Option Overlay) → unwrap_or (cond b p None) empty ≡ cond b (unwrap_or p empty) empty
left_alone true p = refl
left_alone false p = refl

pub overlay_of-only : (session : ℕ) (l : Layers) (c : ℕ) → overlay_of c (only session l) ≡ cond (same_session c session) (overlay_of c l) empty
overlay_of-only session l c = ap (λ o. unwrap_or o empty) (get-keep (λ d. same_session d session) l.overlays c)
    ∙ left_alone (same_session c session) (get l.overlays c)

-- the session sees the same
pub sight-only : (session : ℕ) (l : Layers) → sight session (only session l) ≡ sight session l
sight-only session l = ap (λ (o : Overlay). lay o l.committed)
    (overlay_of-only session l session ∙ ap (λ b. cond b (overlay_of session l) empty) (same_key-refl session_order session))

-- and no other one has written anywhere
pub only-alone : (session : ℕ) (l : Layers) (p : RowPlace) → IsOnlyWriterAt session p (only session l)
only-alone session l p = λ other ne.
    ap (λ (o : Overlay). get o p) (overlay_of-only session l other ∙ at other ne (same_session other session) refl)
    ∙ get-empty place_order (Option Tuple) p
  where
    at : (other : ℕ) → other ≢ session → (b : Bool) → same_session other session ≡ b → cond (same_session other session) (overlay_of other l) empty ≡ empty
    at other ne true is = absurd (ne (same_key-true session_order other session is))
    at other ne false is = ap (λ b. cond b (overlay_of other l) empty) is
