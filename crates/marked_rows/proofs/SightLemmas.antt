-- What is shown of a table is what a session sees there, or what is committed there.
use Rattle.std.proofs.Common.{◌≡◌, sym, ap, ◌∙◌, subst, refl, ℕ, zero, suc, arith, List, [], ◌∷◌, get_or, None, Some, All}
use Rattle.std.specs.Prelude.{slice_get}
use Rattle.std.specs.List.{Contains}
use Rattle.std.specs.List.Sorted.{IsStrictlySortedBy}
use Rattle.std.proofs.lemmas.List.Elements.{All-cons, All-nil}
use Rattle.finite_maps.specs.Map.{get}
use Rattle.lock_modes.specs.RowPlace.{RowPlace}
use Rattle.lock_modes.specs.Rows.{Rows', Tuple}
use Rattle.lock_modes.specs.declared.value.Value.{Value}
use Rattle.row_tables.specs.Layers.{rows_of, sight}
use Rattle.row_tables.proofs.TableLemmas.{is_rows_of}
use Rattle.marked_lists.specs.Versions.{Versions}
use Rattle.marked_rows.specs.Cells.{blank, layers_of, row_with}
use Rattle.marked_rows.specs.Kept.{IsKept, IsNumber}
use Rattle.marked_rows.specs.Places.{Index, IsAbsent, IsPlaceOf, key_cmp, keys_of}
use Rattle.marked_rows.specs.Shown.{CanShow, numbers_of, shown, shown_of}
use Rattle.marked_rows.specs.declared.cell.Cell.{Cell}
use Rattle.marked_rows.specs.declared.cell.Sight.{Sight}
use Rattle.marked_rows.specs.declared.cell.Sight.TheVariants.{Committed, Own}
use Rattle.marked_rows.specs.declared.cell.Written.{Written}
use Rattle.marked_rows.specs.declared.places.KeyedCell.{KeyedCell}
use Rattle.marked_rows.proofs.ChangeLemmas.{committed-cell, committed-none, read-cell, read-none, shown-number}
use Rattle.marked_rows.proofs.KeptLemmas.{all-get}
use Rattle.marked_rows.proofs.PlaceLemmas.{keys-rise}
use Rattle.marked_rows.proofs.ScanLemmas.{find-shown, same-count, sorted-shown}

-- a key that is there, with its cell
entry-at : (sight : Sight) (cells : List Cell) (es : List KeyedCell) (i : ℕ) (x : Value) → slice_get (keys_of es) i ≡ Some x
    → (e : KeyedCell) × (slice_get es i ≡ Some e) × (e.key ≡ x)
    × (get_or (numbers_of sight cells es) i None ≡ shown_of sight (get_or cells e.cell blank))
entry-at sight cells [] i x at = cc
entry-at sight cells (e ∷ es) zero x at = (e, refl, (let same : e.key ≡ x = grind (arith, at) in same), refl)
entry-at sight cells (e ∷ es) (suc i) x at = entry-at sight cells es i x at

module _ (index : Index) (rows : Versions Tuple) (cells : Versions Cell) (written : Versions Written) (kept : IsKept index rows cells written) (t : ℕ)
    (es : List KeyedCell) (rise : IsStrictlySortedBy key_cmp es)
    (own : (i : ℕ) (e : KeyedCell) → slice_get es i ≡ Some e → IsPlaceOf index.entries (t, e.key) e.cell)
    (other : (k : Value) → (Contains (keys_of es) k → ⊥) → IsAbsent (t, k) index.entries) where
  -- each key of the table has a row that is there, or none
  pub scan-shows : (sight : Sight) → CanShow rows.list (keys_of es) (numbers_of sight cells.list es)
  scan-shows sight = record { count = same-count sight cells.list es; there = all es }
    where
      all : (xs : List KeyedCell) → All (IsNumber rows.list) (numbers_of sight cells.list xs)
      all [] = All-nil (IsNumber rows.list)
      all (x ∷ xs) =
          let cell = get_or cells.list x.cell blank in
          All-cons (IsNumber rows.list) (shown_of sight cell) (numbers_of sight cells.list xs)
          (shown-number index rows cells written kept sight cell (all-get rows.list cells.list x.cell kept.now.there)) (all xs)

  -- where each cell shows what lies at its place, the rows that are shown are those of the table
  scan-rows : (sight : Sight) (there : Rows')
      → ((p : RowPlace) (n : ℕ) → p.0 ≡ t → IsPlaceOf index.entries p n → get there p ≡ row_with rows.list (shown_of sight (get_or cells.list n blank)))
      → ((p : RowPlace) → IsAbsent p index.entries → get there p ≡ None)
      → shown rows.list (keys_of es) (numbers_of sight cells.list es) ≡ rows_of t there
  scan-rows sight there at none =
      is_rows_of t there (shown rows.list (keys_of es) (numbers_of sight cells.list es))
      (sorted-shown rows.list (keys_of es) (numbers_of sight cells.list es) (keys-rise es rise))
      (find-shown rows.list (keys_of es) (numbers_of sight cells.list es) (λ x. get there (t, x)) (keys-rise es rise) (same-count sight cells.list es) each
      (λ x never. none (t, x) (other x never)))
    where
      each : (x : Value) (i : ℕ) → slice_get (keys_of es) i ≡ Some x → get there (t, x) ≡ row_with rows.list (get_or (numbers_of sight cells.list es) i None)
      each x i here =
          let found = entry-at sight cells.list es i x here in
          let place : IsPlaceOf index.entries (t, x) found.0.cell = subst (λ k. IsPlaceOf index.entries (t, k) found.0.cell) found.2 (own i found.0 found.1) in
          at (t, x) found.0.cell refl place ∙ ap (row_with rows.list) (sym found.3)

  -- they are those that a session sees
  pub seen-rows : (s : ℕ)
      → shown rows.list (keys_of es) (numbers_of (Own s) cells.list es) ≡ rows_of t (sight s (layers_of rows.list cells.list index.entries))
  seen-rows s =
      scan-rows (Own s) (sight s (layers_of rows.list cells.list index.entries)) (λ p n same is. read-cell index rows cells written kept s p n is)
      (read-none index rows cells written kept s)

  -- or those that are committed
  pub committed-rows : shown rows.list (keys_of es) (numbers_of Committed cells.list es) ≡ rows_of t (layers_of rows.list cells.list index.entries).committed
  committed-rows =
      scan-rows Committed (layers_of rows.list cells.list index.entries).committed (λ p n same is. committed-cell index rows cells written kept p n is)
      (committed-none index rows cells written kept)
