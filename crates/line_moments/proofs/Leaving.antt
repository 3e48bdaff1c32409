-- What is told of the rows that a world leaves is true.
use Rattle.std.proofs.Common.{◌≡◌, refl, sym, ap, ◌∙◌, subst, ℕ, zero, suc, ◌+◌, ◌<◌, ◌≤◌, List}
use Rattle.std.proofs.Common.{[], ◌∷◌, length, get_or}
use Rattle.std.proofs.Common.{Option, Some, None, ◌⊎◌, inl, inr, ◌↔◌, arith}
use Rattle.std.specs.FinMap.Entries.{find}
use Rattle.finite_maps.specs.Map.{get, entries, same_map}
use Rattle.lock_modes.specs.declared.value.Value.{Value}
use Rattle.lock_modes.specs.RowPlace.{RowPlace, place_order}
use Rattle.lock_modes.specs.Rows.{Tuple}
use Rattle.lock_modes.specs.Value.{value_cmp, value_order}
use Rattle.lock_queues.specs.Reasons.{Among}
use Rattle.row_tables.specs.Layers.{rows_of}
use Rattle.bound_statements.specs.Plan.{key_at}
use Rattle.row_tables.proofs.TableLemmas.{find-rows_of, sorted-rows_of}
use Rattle.statement_evaluation.proofs.ListLemmas.{Each}
use Rattle.binding_model.specs.Tables.{no_table, key_column}
use Rattle.binding_model.specs.declared.tables.Table.{Table}
use Rattle.bound_specs.specs.Fits.{RowFits}
use Rattle.machine_model.specs.Typed.{LiesAt, EntryFits, RowsFit}
use Rattle.machine_model.specs.World.{World}
use Rattle.machine_model.proofs.Takings.{each-all, all-each}
use Rattle.line_moments.specs.Laws.{LeftIsExact, KeysTellRows}
use Rattle.line_moments.specs.Left.{tuples_of, rows_alone, left_from, no_left, IsLeftOf, IsLeftIn}
use Rattle.line_moments.proofs.KeyOrder.{keys-rise, find-among, among-find, entries-are, among-each, each-among}

-- ---- the rows of a table

left-at : (tables : List Table) (k n m : ℕ) (w : World) → n < length tables → m ≡ k + n
    → get_or (left_from k tables w) n no_left ≡ record { table = get_or tables n no_table; rows = rows_of m w.rows }
left-at [] k n m w lt is = absurd (omega (arith, lt))
left-at (t ∷ ts) k zero m w lt is = let e : k ≡ m = omega (arith, is) in λ i. record { table = t; rows = rows_of (e i) w.rows }
left-at (t ∷ ts) k (suc n) m w lt is = left-at ts (suc k) n m w (omega (arith, lt)) (omega (arith, is))

left-count : (tables : List Table) (k : ℕ) (w : World) → length (left_from k tables w) ≡ length tables
left-count [] k w = refl
left-count (t ∷ ts) k w = ap suc (left-count ts (suc k) w)

module _ (tables : List Table) (w : World) (fits : RowsFit tables w.rows) where
  row-fits : (p : RowPlace) (row : Tuple) → get w.rows p ≡ Some row → EntryFits tables (p, row)
  row-fits p row e =
      among-each (EntryFits tables) (entries w.rows) (all-each (EntryFits tables) (entries w.rows) fits) (p, row) ((entries-are place_order w.rows p row).1 e)

  rows-are : (n : ℕ) (key : Value) (row : Tuple) → Among (key, row) (rows_of n w.rows) ↔ (get w.rows (n, key) ≡ Some row)
  rows-are n key row = (
    (λ m. sym (find-rows_of n key w.rows) ∙ among-find value_order key row (rows_of n w.rows) (sorted-rows_of n w.rows) m),
    (λ e. find-among value_order key row (rows_of n w.rows) (find-rows_of n key w.rows ∙ e)),
  )

  left-of : (n : ℕ) → IsLeftOf n (get_or tables n no_table) w (record { table = get_or tables n no_table; rows = rows_of n w.rows })
  left-of n =
      let t = get_or tables n no_table in
      let P : Value × Tuple → Type 0 = λ e. RowFits t e.1 × LiesAt (key_column t) e.0 e.1 in
      record {
        table = refl;
        rows = rows-are n;
        rise = keys-rise value_order (rows_of n w.rows) (sorted-rows_of n w.rows);
        fit = each-all P (rows_of n w.rows)
            (each-among P (rows_of n w.rows) (λ e m. (row-fits (n, e.0) e.1 ((rows-are n e.0 e.1).0 m)).1));
      }

  pub left-in : IsLeftIn tables w (left_from 0 tables w)
  left-in =
      record {
        count = left-count tables 0 w;
        each = λ n lt. subst (IsLeftOf n (get_or tables n no_table) w) (sym (left-at tables 0 n n w lt (omega arith))) (left-of n);
        all = λ p row e. (row-fits p row e).0;
      }

pub left-exact : LeftIsExact
left-exact tables w fits = left-in tables w fits

-- ---- rows without their keys

-- the rows of one table lie at their values in the key column
at-keys : (key : ℕ) (es fs : List (Value × Tuple)) → Each (λ (e : Value × Tuple). e.0 ≡ key_at key e.1) es
    → Each (λ (e : Value × Tuple). e.0 ≡ key_at key e.1) fs → tuples_of es ≡ tuples_of fs → es ≡ fs
at-keys key [] [] p q is = refl
at-keys key [] (f ∷ fs) p q is = absurd (let x : [] ≡ f.1 ∷ tuples_of fs = is in cc)
at-keys key (e ∷ es) [] p q is = absurd (let x : e.1 ∷ tuples_of es ≡ [] = is in cc)
at-keys key (e ∷ es) (f ∷ fs) p q is =
    let row : e.1 ≡ f.1 = (let x : e.1 ∷ tuples_of es ≡ f.1 ∷ tuples_of fs = is in cc) in
    let rest : tuples_of es ≡ tuples_of fs = (let x : e.1 ∷ tuples_of es ≡ f.1 ∷ tuples_of fs = is in cc) in
    let value : e.0 ≡ f.0 = p.0 ∙ ap (key_at key) row ∙ sym q.0 in
    let more : es ≡ fs = at-keys key es fs p.1 q.1 rest in
    λ i. (value i, row i) ∷ more i

-- the rows of table number n
alone-at : (tables : List Table) (k n m : ℕ) (v w : World) → n < length tables → m ≡ k + n
    → rows_alone (left_from k tables v) ≡ rows_alone (left_from k tables w) → tuples_of (rows_of m v.rows) ≡ tuples_of (rows_of m w.rows)
alone-at [] k n m v w lt is same = absurd (omega (arith, lt))
alone-at (t ∷ ts) k zero m v w lt is same =
    let e : k ≡ m = omega (arith, is) in
    let first : tuples_of (rows_of k v.rows) ≡ tuples_of (rows_of k w.rows) =
    (let x : tuples_of (rows_of k v.rows) ∷ rows_alone (left_from (suc k) ts v) ≡ tuples_of (rows_of k w.rows) ∷ rows_alone (left_from (suc k) ts w) = same
    in cc) in
    subst (λ (j : ℕ). tuples_of (rows_of j v.rows) ≡ tuples_of (rows_of j w.rows)) e first
alone-at (t ∷ ts) k (suc n) m v w lt is same =
    let rest : rows_alone (left_from (suc k) ts v) ≡ rows_alone (left_from (suc k) ts w) =
    (let x : tuples_of (rows_of k v.rows) ∷ rows_alone (left_from (suc k) ts v) ≡ tuples_of (rows_of k w.rows) ∷ rows_alone (left_from (suc k) ts w) = same
    in cc) in
    alone-at ts (suc k) n m v w (omega (arith, lt)) (omega (arith, is)) rest

-- a row that fits a table with a key lies at its key
lies-at-key : (t : Table) (key : ℕ) (e : Value × Tuple) → key_column t ≡ Some key → LiesAt (key_column t) e.0 e.1 → e.0 ≡ key_at key e.1
lies-at-key t key e is lies = subst (λ o. LiesAt o e.0 e.1) is lies

pub keys-tell : KeysTellRows
keys-tell tables v w fv fw keys same = same_map v.rows w.rows (λ p. at p (grind arith))
  where
    keyed : (x : World) → RowsFit tables x.rows → (n key : ℕ) → key_column (get_or tables n no_table) ≡ Some key
        → Each (λ (e : Value × Tuple). e.0 ≡ key_at key e.1) (rows_of n x.rows)
    keyed x fx n key is =
        each-among (λ (e : Value × Tuple). e.0 ≡ key_at key e.1) (rows_of n x.rows)
        (λ e m. lies-at-key (get_or tables n no_table) key e is (row-fits tables x fx (n, e.0) e.1 ((rows-are tables x fx n e.0 e.1).0 m)).1.1)

    there : (n : ℕ) → n < length tables → rows_of n v.rows ≡ rows_of n w.rows
    there n lt =
        let key = keys n no_table lt in
        at-keys key.0 (rows_of n v.rows) (rows_of n w.rows) (keyed v fv n key.0 key.1) (keyed w fw n key.0 key.1)
        (alone-at tables 0 n n v w lt (omega arith) same)

    none : (x : World) → RowsFit tables x.rows → (p : RowPlace) → length tables ≤ p.0 → get x.rows p ≡ None
    none x fx p le = gone (get x.rows p) refl
      where
        gone : (o : Option Tuple) → get x.rows p ≡ o → o ≡ None
        gone None e = refl
        gone (Some row) e = absurd (let lt : p.0 < length tables = (row-fits tables x fx p row e).0 in omega (arith, lt, le))

    at : (p : RowPlace) → (p.0 < length tables) ⊎ (length tables ≤ p.0) → get v.rows p ≡ get w.rows p
    at p (inl lt) = sym (find-rows_of p.0 p.1 v.rows) ∙ ap (find value_cmp p.1) (there p.0 lt) ∙ find-rows_of p.0 p.1 w.rows
    at p (inr le) = none v fv p le ∙ sym (none w fw p le)
