-- The picture of cells at their places has their layers, and is made and compared cell by cell.
use Rattle.std.proofs.Common.{◌≡◌, refl, sym, ap, ◌∙◌, ℕ, zero, suc, ◌+◌, ◌<◌, arith, Bool, true}
use Rattle.std.proofs.Common.{List, [], ◌∷◌, ◌++◌, length, take, get_or, Option, Some, None, Ordering, Less, Equal, Greater}
use Rattle.std.specs.Ordering.{is_eq}
use Rattle.std.proofs.lemmas.List.{append-nil, append_assoc, take_more}
use Rattle.lock_modes.specs.RowPlace.{RowPlace}
use Rattle.lock_modes.specs.Rows.{Tuple}
use Rattle.lock_modes.specs.Value.{value_cmp, value_same}
use Rattle.lock_modes.specs.declared.value.Value.{Value}
use Rattle.row_tables.specs.Layers.{Layers}
use Rattle.marked_rows.specs.Cells.{blank, committed_at, layers_of, left_at, row_with}
use Rattle.marked_rows.specs.Picture.{layers_in, left_with, pictured_at, pictured_from, pictured_in, with_left, with_pictured}
use Rattle.marked_rows.specs.Places.{placed, placed_from}
use Rattle.marked_rows.specs.declared.cell.Cell.{Cell}
use Rattle.marked_rows.specs.declared.cell.Left.{Left}
use Rattle.marked_rows.specs.declared.picture.PicturedCell.{PicturedCell}
use Rattle.marked_rows.specs.declared.places.KeyedCell.{KeyedCell}

tied : (o : Ordering) → is_eq o ≡ true → o ≡ Equal
tied Less e = cc
tied Equal e = refl
tied Greater e = cc

-- values that are told to tie are one
pub same-value : (v w : Value) (o : Ordering) (b : Bool) → o ≡ value_cmp v w → b ≡ is_eq o → b ≡ true → v ≡ w
same-value v w o b compared told is = value_same v w (tied (value_cmp v w) (ap is_eq (sym compared) ∙ sym told ∙ is))

module _ (rows : List Tuple) (cells : List Cell) where
  -- one table more
  push-table : (t : ℕ) (tables : List (List KeyedCell)) (es : List KeyedCell)
      → pictured_from rows cells t (tables ++ es ∷ []) ≡ pictured_from rows cells t tables ++ pictured_in rows cells (t + length tables) es
  push-table t [] es =
      let here : t ≡ t + 0 = omega arith in
      append-nil (pictured_in rows cells t es) ∙ ap (λ n. pictured_in rows cells n es) here
  push-table t (ks ∷ tables) es =
      let next : suc t + length tables ≡ t + suc (length tables) = omega arith in
      ap (λ cs. pictured_in rows cells t ks ++ cs) (push-table (suc t) tables es)
      ∙ sym (append_assoc (pictured_in rows cells t ks) (pictured_from rows cells (suc t) tables) (pictured_in rows cells (suc t + length tables) es))
      ∙ ap (λ n. (pictured_in rows cells t ks ++ pictured_from rows cells (suc t) tables) ++ pictured_in rows cells n es) next

  length-front : {X : Type 0} (xs : List X) (i : ℕ) → i < length xs → length (take i xs) ≡ i
  length-front [] i lt = absurd (omega (arith, lt))
  length-front (x ∷ xs) zero lt = refl
  length-front (x ∷ xs) (suc i) lt = ap suc (length-front xs i (omega (arith, lt)))

  -- what lies in the tables so far, with the next one
  pub more-tables-made : (made new : List PicturedCell) (tables : List (List KeyedCell)) (i : ℕ) → i < length tables
      → made ≡ pictured_from rows cells 0 (take i tables) → new ≡ made ++ pictured_in rows cells i (get_or tables i [])
      → new ≡ pictured_from rows cells 0 (take (i + 1) tables)
  more-tables-made made new tables i lt so_far more =
      let count : 0 + length (take i tables) ≡ i = omega (arith, length-front tables i lt) in
      more ∙ ap (λ cs. cs ++ pictured_in rows cells i (get_or tables i [])) so_far
      ∙ ap (λ n. pictured_from rows cells 0 (take i tables) ++ pictured_in rows cells n (get_or tables i [])) (sym count)
      ∙ sym (ap (pictured_from rows cells 0) (take_more tables i [] lt) ∙ push-table 0 (take i tables) (get_or tables i []))

  -- ---- layers

  same-left : (p : RowPlace) (left : Option Left) (l : Layers) → with_left p (left_with rows left) l ≡ left_at rows p left l
  same-left p None l = refl
  same-left p (Some left) l = refl

  -- the layers of what is pictured are those of the cells
  pub pictured-layers : (t : ℕ) (tables : List (List KeyedCell)) → layers_in (pictured_from rows cells t tables) ≡ layers_of rows cells (placed_from t tables)
  unfolding layers_in layers_of
  pictured-layers t [] = refl
  pictured-layers t (es ∷ rest) = table es (pictured-layers (suc t) rest)
    where
      table : (ks : List KeyedCell) → layers_in (pictured_from rows cells (suc t) rest) ≡ layers_of rows cells (placed_from (suc t) rest)
          → layers_in (pictured_in rows cells t ks ++ pictured_from rows cells (suc t) rest) ≡ layers_of rows cells (placed t ks ++ placed_from (suc t) rest)
      table [] behind = behind
      table (k ∷ ks) behind =
          let p : RowPlace = (t, k.key) in
          let c = get_or cells k.cell blank in
          ap (with_pictured (pictured_at rows cells t k)) (table ks behind)
          ∙ same-left p c.left (committed_at p (row_with rows c.committed) (layers_of rows cells (placed t ks ++ placed_from (suc t) rest)))
