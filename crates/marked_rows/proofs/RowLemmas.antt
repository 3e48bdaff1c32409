-- The layers of cells over rows that become more, and of places whose cells are not there yet.
use Rattle.std.proofs.Common.{◌≡◌, refl, ap, ◌∙◌, ℕ, zero, suc, ◌<◌, ◌≤◌, arith, List, [], ◌∷◌, ◌++◌, length, get_or, Option, Some, None, All}
use Rattle.std.specs.Prelude.{slice_get}
use Rattle.lock_modes.specs.RowPlace.{RowPlace}
use Rattle.lock_modes.specs.Rows.{Tuple}
use Rattle.row_tables.specs.Layers.{Layers, wrote}
use Rattle.marked_rows.specs.Cells.{blank, committed_at, layers_at, layers_of, left_at, row_with, with_cell}
use Rattle.marked_rows.specs.Kept.{AreKept, HasRows, IsLeft, IsNumber}
use Rattle.marked_rows.specs.Places.{IsAbsent}
use Rattle.marked_rows.specs.declared.cell.Cell.{Cell}
use Rattle.marked_rows.specs.declared.cell.Left.{Left}
use Rattle.marked_rows.specs.declared.cell.Written.{Written}
use Rattle.marked_rows.proofs.CellLemmas.{committed-absent}
use Rattle.marked_rows.proofs.KeptLemmas.{all-get}
use Rattle.marked_rows.proofs.StepLemmas.{laid-absent}

-- ---- more rows

get-more : (rows more : List Tuple) (n : ℕ) → n < length rows → slice_get (rows ++ more) n ≡ slice_get rows n
get-more [] more n lt = absurd (omega (arith, lt))
get-more (row ∷ rows) more zero lt = refl
get-more (row ∷ rows) more (suc n) lt = get-more rows more n (omega (arith, lt))

row-more : (rows more : List Tuple) (n : Option ℕ) → IsNumber rows n → row_with (rows ++ more) n ≡ row_with rows n
row-more rows more None there = refl
row-more rows more (Some n) there = get-more rows more n there

left-more : (rows more : List Tuple) (p : RowPlace) (left : Option Left) (l : Layers) → IsLeft rows left
    → left_at (rows ++ more) p left l ≡ left_at rows p left l
left-more rows more p None l there = refl
left-more rows more p (Some left) l there = ap (λ row. wrote left.session p row l) (row-more rows more left.row there)

-- rows that no cell names are of no matter
pub more-rows : (rows more : List Tuple) (cells : List Cell) (es : List (RowPlace × ℕ)) → All (HasRows rows) cells
    → layers_of (rows ++ more) cells es ≡ layers_of rows cells es
unfolding layers_of
more-rows rows more cells [] all = refl
more-rows rows more cells (e ∷ es) all =
    let c = get_or cells e.1 blank in
    let here = all-get rows cells e.1 all in
    ap (with_cell (rows ++ more) e.0 c) (more-rows rows more cells es all)
    ∙ ap (λ row. left_at (rows ++ more) e.0 c.left (committed_at e.0 row (layers_of rows cells es))) (row-more rows more c.committed here.0)
    ∙ left-more rows more e.0 c.left (committed_at e.0 (row_with rows c.committed) (layers_of rows cells es)) here.1

-- ---- more places

-- a cell that is not there is blank
beyond : (cells : List Cell) (n : ℕ) → length cells ≤ n → get_or cells n blank ≡ blank
beyond [] n le = refl
beyond (c ∷ cells) zero le = absurd (omega (arith, le))
beyond (c ∷ cells) (suc n) le = beyond cells n (omega (arith, le))

-- a place with a blank cell is of no matter
more-layers : (rows : List Tuple) (cells : List Cell) (p : RowPlace) (n : ℕ) (front back : List (RowPlace × ℕ)) → IsAbsent p back
    → get_or cells n blank ≡ blank → layers_of rows cells (front ++ (p, n) ∷ back) ≡ layers_of rows cells (front ++ back)
unfolding layers_of
more-layers rows cells p n [] back absent is =
    ap (λ (c : Cell). with_cell rows p c (layers_of rows cells back)) is
    ∙ laid-absent (layers_of rows cells back) p (committed-absent rows cells back p absent)
more-layers rows cells p n (e ∷ front) back absent is =
    ap (with_cell rows e.0 (get_or cells e.1 blank)) (more-layers rows cells p n front back absent is)

module _ (p : RowPlace) (n : ℕ) (front back : List (RowPlace × ℕ)) (absent : IsAbsent p back) where
  -- one place more, whose cell is not there
  pub place-more : (rows : List Tuple) (cells : List Cell) → length cells ≤ n
      → layers_of rows cells (front ++ (p, n) ∷ back) ≡ layers_of rows cells (front ++ back)
  place-more rows cells few = more-layers rows cells p n front back absent (beyond cells n few)

  pub marks-more : (rows : List (List Tuple)) (cells : List (List Cell)) (written : List (List Written)) → AreKept n rows cells written
      → layers_at (front ++ (p, n) ∷ back) rows cells ≡ layers_at (front ++ back) rows cells
  marks-more [] cells written kept = refl
  marks-more (rows ∷ more) [] written kept = refl
  marks-more (rows ∷ more) (cells ∷ marked) [] kept = absurd kept
  marks-more (rows ∷ more) (cells ∷ marked) (ws ∷ written) kept =
      ap (λ l. l ∷ layers_at (front ++ (p, n) ∷ back) more marked) (place-more rows cells kept.0.few)
      ∙ ap (λ ls. layers_of rows cells (front ++ back) ∷ ls) (marks-more more marked written kept.1)

-- ---- more cells

-- cells that say the same give the same layers
pub same-cells : (rows : List Tuple) (cells new : List Cell) (es : List (RowPlace × ℕ)) → ((n : ℕ) → get_or new n blank ≡ get_or cells n blank)
    → layers_of rows new es ≡ layers_of rows cells es
unfolding layers_of
same-cells rows cells new [] each = refl
same-cells rows cells new (e ∷ es) each =
    ap (λ (c : Cell). with_cell rows e.0 c (layers_of rows new es)) (each e.1)
    ∙ ap (with_cell rows e.0 (get_or cells e.1 blank)) (same-cells rows cells new es each)
