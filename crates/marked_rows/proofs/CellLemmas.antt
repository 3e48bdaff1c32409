-- The layers of cells, by one cell more and by one that changes.
use Rattle.std.proofs.Common.{◌≡◌, ◌≢◌, refl, sym, ap, ◌∙◌, ℕ, ◌<◌, ◌==◌, Bool, true, false, cond, ◌⊎◌, inl, inr, ⊎_elim}
use Rattle.std.proofs.Common.{List, [], ◌∷◌, length, get_or, set, Option, Some, None, get_or-set_other, get_or-set_same, subst}
use Rattle.std.proofs.Common.{eq-eqb}
use Rattle.std.proofs.lemmas.Bool.{ne_eqb}
use Rattle.std.proofs.lemmas.Bool.Decides.{eqb_tells}
use Rattle.finite_maps.specs.Map
use Rattle.finite_maps.specs.Map.{empty, get, get-empty, get-insert, same_key, same_key-refl}
use Rattle.lock_modes.specs.RowPlace.{RowPlace, place_order}
use Rattle.lock_modes.specs.Rows.{Rows', Tuple}
use Rattle.row_tables.specs.Layers.{IsOnlyWriterAt, Layers, kept, overlay_of, session_order, sight, undone, wrote}
use Rattle.row_tables.proofs.OverlayLemmas.{get-laid, get-lay, over}
use Rattle.row_tables.proofs.LayersLemmas.{overlay_of-wrote}
use Rattle.marked_rows.specs.Cells.{blank, committed_at, layers_of, left_at, row_with, seen, seen_over, with_cell}
use Rattle.marked_rows.specs.Kept.{ended, ended_by, ended_layers, with_end}
use Rattle.marked_rows.specs.Places.{AreApart, IsAbsent, IsFree, IsPlaceOf}
use Rattle.marked_rows.specs.declared.cell.Cell.{Cell}
use Rattle.marked_rows.specs.declared.cell.Ending.{Ending}
use Rattle.marked_rows.specs.declared.cell.Ending.TheVariants.{Keep, Undo}
use Rattle.marked_rows.specs.declared.cell.Left.{Left}
use Rattle.marked_rows.proofs.StepLemmas.{kept-committed, kept-nothing, kept-other, kept-own, key-other}
use Rattle.marked_rows.proofs.StepLemmas.{overlay_of-nothing, undone-nothing, undone-other, undone-own, wrote-again, wrote-swap}

-- the cell with what a session leaves there
abbrev pub with_left : Cell → ℕ → Option ℕ → Cell
with_left c s n = record c { left = Some (record { session = s; row = n }) }

decided : (s t : ℕ) → (s ≡ t) ⊎ (s ≢ t)
decided s t = ⊎_elim (λ same. inl same.1) (λ other. inr other.1) (eqb_tells s t)

-- ---- what is committed and what is left at one place

-- what a session has left there
abbrev own : List Tuple → ℕ → Option Left → Option (Option Tuple)
own rows session None = None
own rows session (Some left) = cond (same_key session_order session left.session) (Some (row_with rows left.row)) None

-- a write leaves committed rows as they are
committed-left : (rows : List Tuple) (p : RowPlace) (left : Option Left) (l : Layers) → (left_at rows p left l).committed ≡ l.committed
committed-left rows p None l = refl
committed-left rows p (Some left) l = refl

get-committed : (rows : List Tuple) (p : RowPlace) (c : Cell) (l : Layers) (q : RowPlace)
    → get (with_cell rows p c l).committed q ≡ cond (same_key place_order q p) (row_with rows c.committed) (get l.committed q)
get-committed rows p c l q =
    ap (λ (rs : Rows'). get rs q) (committed-left rows p c.left (committed_at p (row_with rows c.committed) l))
    ∙ get-laid p (row_with rows c.committed) l.committed q

-- at other places a cell changes nothing
overlay-away : (rows : List Tuple) (p : RowPlace) (left : Option Left) (l : Layers) (s : ℕ) (q : RowPlace) → q ≢ p
    → get (overlay_of s (left_at rows p left l)) q ≡ get (overlay_of s l) q
overlay-away rows p None l s q ne = refl
overlay-away rows p (Some left) l s q ne =
    ap (λ o. get o q) (overlay_of-wrote left.session p (row_with rows left.row) l s) ∙ at (same_key session_order s left.session) refl
  where
    at : (b : Bool) → same_key session_order s left.session ≡ b
        → get (cond b (Map.insert (overlay_of left.session l) p (row_with rows left.row)) (overlay_of s l)) q ≡ get (overlay_of s l) q
    at true is =
        get-insert (overlay_of left.session l) p (row_with rows left.row) q
        ∙ ap (λ b. cond b (Some (row_with rows left.row)) (get (overlay_of left.session l) q)) (key-other place_order q p ne)
        ∙ ap (λ t. get (overlay_of t l) q) (sym (Map.same_key-true session_order s left.session is))
    at false is = refl

-- at its own it has what it has
overlay-here : (rows : List Tuple) (p : RowPlace) (left : Option Left) (l : Layers) (s : ℕ) → get (overlay_of s l) p ≡ None
    → get (overlay_of s (left_at rows p left l)) p ≡ own rows s left
overlay-here rows p None l s none = none
overlay-here rows p (Some left) l s none =
    ap (λ o. get o p) (overlay_of-wrote left.session p (row_with rows left.row) l s) ∙ at (same_key session_order s left.session)
  where
    at : (b : Bool) → get (cond b (Map.insert (overlay_of left.session l) p (row_with rows left.row)) (overlay_of s l)) p
        ≡ cond b (Some (row_with rows left.row)) None
    at true =
        get-insert (overlay_of left.session l) p (row_with rows left.row) p
        ∙ ap (λ b. cond b (Some (row_with rows left.row)) (get (overlay_of left.session l) p)) (same_key-refl place_order p)
    at false = none

-- ---- look-ups

-- a place that is there is none that is not
other-place : (es : List (RowPlace × ℕ)) (p q : RowPlace) (n : ℕ) → IsAbsent p es → IsPlaceOf es q n → p ≢ q
other-place [] p q n absent never same = never
other-place (e ∷ es) p q n absent (inl here) same = absent.0 (same ∙ sym here.0)
other-place (e ∷ es) p q n absent (inr later) same = other-place es p q n absent.1 later same

-- nor has it the same cell
other-cell : (es : List (RowPlace × ℕ)) (m : ℕ) (q : RowPlace) (n : ℕ) → IsFree m es → IsPlaceOf es q n → m ≢ n
other-cell [] m q n free never same = never
other-cell (e ∷ es) m q n free (inl here) same = free.0 (same ∙ sym here.1)
other-cell (e ∷ es) m q n free (inr later) same = other-cell es m q n free.1 later same

module _ (rows : List Tuple) (cells : List Cell) where
  abbrev cell_at : ℕ → Cell
  cell_at n = get_or cells n blank

  -- at a place that is not there nothing is written
  overlay-absent : (es : List (RowPlace × ℕ)) (s : ℕ) (p : RowPlace) → IsAbsent p es → get (overlay_of s (layers_of rows cells es)) p ≡ None
  unfolding layers_of
  overlay-absent [] s p absent = ap (λ o. get o p) (overlay_of-nothing s) ∙ get-empty place_order (Option Tuple) p
  overlay-absent (e ∷ es) s p absent =
      overlay-away rows e.0 (cell_at e.1).left (committed_at e.0 (row_with rows (cell_at e.1).committed) (layers_of rows cells es)) s p absent.0
      ∙ overlay-absent es s p absent.1

  -- nor committed
  pub committed-absent : (es : List (RowPlace × ℕ)) (p : RowPlace) → IsAbsent p es → get (layers_of rows cells es).committed p ≡ None
  unfolding layers_of
  committed-absent [] p absent = get-empty place_order Tuple p
  committed-absent (e ∷ es) p absent =
      get-committed rows e.0 (cell_at e.1) (layers_of rows cells es) p
      ∙ ap (λ b. cond b (row_with rows (cell_at e.1).committed) (get (layers_of rows cells es).committed p)) (key-other place_order p e.0 absent.0)
      ∙ committed-absent es p absent.1

  pub sight-absent : (es : List (RowPlace × ℕ)) (s : ℕ) (p : RowPlace) → IsAbsent p es → get (sight s (layers_of rows cells es)) p ≡ None
  sight-absent es s p absent =
      get-lay (overlay_of s (layers_of rows cells es)) (layers_of rows cells es).committed p
      ∙ ap (λ o. over o (get (layers_of rows cells es).committed p)) (overlay-absent es s p absent) ∙ committed-absent es p absent

  pub committed-there : (es : List (RowPlace × ℕ)) (p : RowPlace) (n : ℕ) → AreApart es → IsPlaceOf es p n
      → get (layers_of rows cells es).committed p ≡ row_with rows (cell_at n).committed
  unfolding layers_of
  committed-there [] p n apart never = absurd never
  committed-there (e ∷ es) p n apart (inl here) =
      get-committed rows e.0 (cell_at e.1) (layers_of rows cells es) p
      ∙ ap (λ q. cond (same_key place_order q e.0) (row_with rows (cell_at e.1).committed) (get (layers_of rows cells es).committed p)) (sym here.0)
      ∙ ap (λ b. cond b (row_with rows (cell_at e.1).committed) (get (layers_of rows cells es).committed p)) (same_key-refl place_order e.0)
      ∙ ap (λ m. row_with rows (cell_at m).committed) here.1
  committed-there (e ∷ es) p n apart (inr later) =
      get-committed rows e.0 (cell_at e.1) (layers_of rows cells es) p
      ∙ ap (λ b. cond b (row_with rows (cell_at e.1).committed) (get (layers_of rows cells es).committed p))
      (key-other place_order p e.0 (λ f. other-place es e.0 p n apart.0 later (sym f)))
      ∙ committed-there es p n apart.2 later

  overlay-there : (es : List (RowPlace × ℕ)) (p : RowPlace) (n s : ℕ) → AreApart es → IsPlaceOf es p n
      → get (overlay_of s (layers_of rows cells es)) p ≡ own rows s (cell_at n).left
  unfolding layers_of
  overlay-there [] p n s apart never = absurd never
  overlay-there (e ∷ es) p n s apart (inl here) =
      subst (λ q. get (overlay_of s (layers_of rows cells (e ∷ es))) q ≡ own rows s (cell_at n).left) here.0
      (overlay-here rows e.0 (cell_at e.1).left (committed_at e.0 (row_with rows (cell_at e.1).committed) (layers_of rows cells es)) s
      (overlay-absent es s e.0 apart.0)
      ∙ ap (λ m. own rows s (cell_at m).left) here.1)
  overlay-there (e ∷ es) p n s apart (inr later) =
      overlay-away rows e.0 (cell_at e.1).left (committed_at e.0 (row_with rows (cell_at e.1).committed) (layers_of rows cells es)) s p
      (λ f. other-place es e.0 p n apart.0 later (sym f))
      ∙ overlay-there es p n s apart.2 later

-- no other session has left anything in the cell
abbrev IsOpen : List Tuple → ℕ → Option Left → Type 0
IsOpen rows session left = (other : ℕ) → other ≢ session → own rows other left ≡ None

module _ (rows : List Tuple) where
  mine : (left : Left) (s : ℕ) → IsOpen rows s (Some left) → left.session ≡ s
  mine left s open_to = ⊎_elim (λ same. same) (λ other. absurd (never (open_to left.session other))) (decided left.session s)
    where
      never : own rows left.session (Some left) ≡ None → ⊥
      never e =
          let some : own rows left.session (Some left) ≡ Some (row_with rows left.row) =
          ap (λ b. cond b (Some (row_with rows left.row)) None) (same_key-refl session_order left.session) in
          cc

  -- what a session sees of a cell
  seen-over : (s : ℕ) (committed : Option ℕ) (left : Option Left)
      → over (own rows s left) (row_with rows committed) ≡ row_with rows (seen_over s committed left)
  seen-over s committed None = refl
  seen-over s committed (Some left) = at (decided left.session s)
    where
      at : (left.session ≡ s) ⊎ (left.session ≢ s) → over (own rows s (Some left)) (row_with rows committed) ≡ row_with rows (seen_over s committed (Some left))
      at (inl same) =
          ap (λ b. over (cond b (Some (row_with rows left.row)) None) (row_with rows committed))
          (ap (λ t. same_key session_order t left.session) (sym same) ∙ same_key-refl session_order left.session)
          ∙ sym (ap (λ b. row_with rows (cond b left.row committed)) (eq-eqb left.session s same))
      at (inr ne) =
          ap (λ b. over (cond b (Some (row_with rows left.row)) None) (row_with rows committed)) (key-other session_order s left.session (λ e. ne (sym e)))
          ∙ sym (ap (λ b. row_with rows (cond b left.row committed)) (ne_eqb left.session s ne))

  only-writer : (cells : List Cell) (es : List (RowPlace × ℕ)) (p : RowPlace) (n s : ℕ) → AreApart es → IsPlaceOf es p n
      → IsOnlyWriterAt s p (layers_of rows cells es) → IsOpen rows s (get_or cells n blank).left
  only-writer cells es p n s apart there only other ne = sym (overlay-there rows cells es p n other apart there) ∙ only other ne

  -- a session sees what the place's cell shows it
  pub sight-there : (cells : List Cell) (es : List (RowPlace × ℕ)) (p : RowPlace) (n s : ℕ) → AreApart es → IsPlaceOf es p n
      → get (sight s (layers_of rows cells es)) p ≡ row_with rows (seen s (get_or cells n blank))
  sight-there cells es p n s apart there =
      get-lay (overlay_of s (layers_of rows cells es)) (layers_of rows cells es).committed p
      ∙ ap (λ o. over o (get (layers_of rows cells es).committed p)) (overlay-there rows cells es p n s apart there)
      ∙ ap (over (own rows s (get_or cells n blank).left)) (committed-there rows cells es p n apart there)
      ∙ seen-over s (get_or cells n blank).committed (get_or cells n blank).left

  -- ---- a write

  -- a cell and a write at another place may change places
  swap-cell : (p : RowPlace) (c : Cell) (l : Layers) (s : ℕ) (q : RowPlace) (row : Option Tuple) → p ≢ q
      → with_cell rows p c (wrote s q row l) ≡ wrote s q row (with_cell rows p c l)
  swap-cell p c l s q row ne = at c.left
    where
      at : (left : Option Left) → left_at rows p left (committed_at p (row_with rows c.committed) (wrote s q row l))
          ≡ wrote s q row (left_at rows p left (committed_at p (row_with rows c.committed) l))
      at None = refl
      at (Some left) = wrote-swap (committed_at p (row_with rows c.committed) l) left.session s p q (row_with rows left.row) row (decided left.session s) ne

  -- a write in a cell in which no other session has left anything
  write-cell : (p : RowPlace) (left : Option Left) (l : Layers) (s : ℕ) (row : Option Tuple) → IsOpen rows s left
      → wrote s p row l ≡ wrote s p row (left_at rows p left l)
  write-cell p None l s row open_to = refl
  write-cell p (Some left) l s row open_to =
      sym (ap (λ t. wrote s p row (wrote t p (row_with rows left.row) l)) (mine left s open_to) ∙ wrote-again l s p (row_with rows left.row) row)

  -- cells that no place has are of no matter
  free-cell : (cells : List Cell) (c : Cell) (es : List (RowPlace × ℕ)) (n : ℕ) → IsFree n es
      → layers_of rows (set cells n c) es ≡ layers_of rows cells es
  unfolding layers_of
  free-cell cells c [] n free = refl
  free-cell cells c (e ∷ es) n free =
      ap (with_cell rows e.0 (get_or (set cells n c) e.1 blank)) (free-cell cells c es n free.1)
      ∙ ap (λ (x : Cell). with_cell rows e.0 x (layers_of rows cells es)) (get_or-set_other cells n e.1 c blank (λ f. free.0 (sym f)))

  write-open : (cells : List Cell) (es : List (RowPlace × ℕ)) (p : RowPlace) (n s : ℕ) (r : Option ℕ) → AreApart es → n < length cells → IsPlaceOf es p n
      → IsOpen rows s (get_or cells n blank).left
      → layers_of rows (set cells n (with_left (get_or cells n blank) s r)) es ≡ wrote s p (row_with rows r) (layers_of rows cells es)
  unfolding layers_of
  write-open cells [] p n s r apart lt never open_to = absurd never
  write-open cells (e ∷ es) p n s r apart lt (inl here) open_to =
      let new = with_left (get_or cells n blank) s r in
      ap (λ m. with_cell rows e.0 (get_or (set cells n new) m blank) (layers_of rows (set cells n new) es)) here.1
      ∙ ap (λ (x : Cell). with_cell rows e.0 x (layers_of rows (set cells n new) es)) (get_or-set_same cells n new blank lt)
      ∙ ap (with_cell rows e.0 new) (free-cell cells new es n (subst (λ m. IsFree m es) here.1 apart.1))
      ∙ write-cell e.0 (get_or cells n blank).left (committed_at e.0 (row_with rows (get_or cells n blank).committed) (layers_of rows cells es)) s (row_with rows r) open_to
      ∙ ap (λ m. wrote s e.0 (row_with rows r) (with_cell rows e.0 (get_or cells m blank) (layers_of rows cells es))) (sym here.1)
      ∙ ap (λ q. wrote s q (row_with rows r) (layers_of rows cells (e ∷ es))) here.0
  write-open cells (e ∷ es) p n s r apart lt (inr later) open_to =
      let new = with_left (get_or cells n blank) s r in
      ap (λ (x : Cell). with_cell rows e.0 x (layers_of rows (set cells n new) es))
      (get_or-set_other cells n e.1 new blank (λ f. other-cell es e.1 p n apart.1 later f))
      ∙ ap (with_cell rows e.0 (get_or cells e.1 blank)) (write-open cells es p n s r apart.2 lt later open_to)
      ∙ swap-cell e.0 (get_or cells e.1 blank) (layers_of rows cells es) s p (row_with rows r) (other-place es e.0 p n apart.0 later)

  -- a cell that a session has changed shows its write
  pub written-cells : (cells : List Cell) (es : List (RowPlace × ℕ)) (p : RowPlace) (n s : ℕ) (r : Option ℕ) → AreApart es → n < length cells
      → IsPlaceOf es p n → IsOnlyWriterAt s p (layers_of rows cells es)
      → layers_of rows (set cells n (with_left (get_or cells n blank) s r)) es ≡ wrote s p (row_with rows r) (layers_of rows cells es)
  written-cells cells es p n s r apart lt there only = write-open cells es p n s r apart lt there (only-writer cells es p n s apart there only)

  -- ---- the end of a session's writes

  undo-cell : (p : RowPlace) (committed : Option ℕ) (left : Option Left) (l : Layers) (s : ℕ)
      → with_cell rows p (ended_by s Undo committed left) (undone s l) ≡ undone s (left_at rows p left (committed_at p (row_with rows committed) l))
  undo-cell p committed None l s = refl
  undo-cell p committed (Some left) l s = ⊎_elim here there (eqb_tells left.session s)
    where
      under : Layers
      under = committed_at p (row_with rows committed) l

      cell : Bool → Cell
      cell b = cond b (with_end Undo committed left) (record { committed = committed; left = Some left })

      here : ((left.session == s) ≡ true) × (left.session ≡ s)
          → with_cell rows p (cell (left.session == s)) (undone s l) ≡ undone s (wrote left.session p (row_with rows left.row) under)
      here same =
          ap (λ b. with_cell rows p (cell b) (undone s l)) same.0
          ∙ sym (ap (λ t. undone s (wrote t p (row_with rows left.row) under)) same.1 ∙ undone-own under s p (row_with rows left.row))

      there : ((left.session == s) ≡ false) × (left.session ≢ s)
          → with_cell rows p (cell (left.session == s)) (undone s l) ≡ undone s (wrote left.session p (row_with rows left.row) under)
      there other =
          ap (λ b. with_cell rows p (cell b) (undone s l)) other.0 ∙ sym (undone-other under s left.session p (row_with rows left.row) other.1)

  keep-cell : (p : RowPlace) (committed : Option ℕ) (left : Option Left) (l : Layers) (s : ℕ) → get (overlay_of s l) p ≡ None
      → with_cell rows p (ended_by s Keep committed left) (kept s l) ≡ kept s (left_at rows p left (committed_at p (row_with rows committed) l))
  keep-cell p committed None l s none = sym (kept-committed l s p (row_with rows committed) none)
  keep-cell p committed (Some left) l s none = ⊎_elim here there (eqb_tells left.session s)
    where
      under : Layers
      under = committed_at p (row_with rows committed) l

      cell : Bool → Cell
      cell b = cond b (with_end Keep committed left) (record { committed = committed; left = Some left })

      here : ((left.session == s) ≡ true) × (left.session ≡ s)
          → with_cell rows p (cell (left.session == s)) (kept s l) ≡ kept s (wrote left.session p (row_with rows left.row) under)
      here same =
          ap (λ b. with_cell rows p (cell b) (kept s l)) same.0
          ∙ sym (ap (λ t. kept s (wrote t p (row_with rows left.row) under)) same.1 ∙ kept-own l s p (row_with rows left.row) (row_with rows committed))

      there : ((left.session == s) ≡ false) × (left.session ≢ s)
          → with_cell rows p (cell (left.session == s)) (kept s l) ≡ kept s (wrote left.session p (row_with rows left.row) under)
      there other =
          ap (λ b. with_cell rows p (cell b) (kept s l)) other.0
          ∙ ap (wrote left.session p (row_with rows left.row)) (sym (kept-committed l s p (row_with rows committed) none))
          ∙ sym (kept-other under s left.session p (row_with rows left.row) other.1)

  -- where the writes of a session have ended in each cell they have ended
  pub ended-cells : (ending : Ending) (cells new : List Cell) (s : ℕ) → ((n : ℕ) → get_or new n blank ≡ ended s ending (get_or cells n blank))
      → (es : List (RowPlace × ℕ)) → AreApart es → layers_of rows new es ≡ ended_layers ending s (layers_of rows cells es)
  unfolding layers_of
  ended-cells Keep cells new s each [] apart = sym (kept-nothing s)
  ended-cells Keep cells new s each (e ∷ es) apart =
      ap (λ (x : Cell). with_cell rows e.0 x (layers_of rows new es)) (each e.1)
      ∙ ap (with_cell rows e.0 (ended s Keep (get_or cells e.1 blank))) (ended-cells Keep cells new s each es apart.2)
      ∙ keep-cell e.0 (get_or cells e.1 blank).committed (get_or cells e.1 blank).left (layers_of rows cells es) s (overlay-absent rows cells es s e.0 apart.0)
  ended-cells Undo cells new s each [] apart = sym (undone-nothing s)
  ended-cells Undo cells new s each (e ∷ es) apart =
      ap (λ (x : Cell). with_cell rows e.0 x (layers_of rows new es)) (each e.1)
      ∙ ap (with_cell rows e.0 (ended s Undo (get_or cells e.1 blank))) (ended-cells Undo cells new s each es apart.2)
      ∙ undo-cell e.0 (get_or cells e.1 blank).committed (get_or cells e.1 blank).left (layers_of rows cells es) s
