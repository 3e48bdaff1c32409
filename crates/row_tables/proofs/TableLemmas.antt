-- Rows that are kept by table, and there by key.
use Rattle.std.proofs.Common.{◌≡◌, refl, sym, ap, ◌∙◌, subst, ℕ, Bool, true, false, cond, not, ◌&&◌, List, [], ◌∷◌, Option, Some, None}
use Rattle.std.specs.Prelude.{T}
use Rattle.std.specs.Option.{unwrap_or, option_or}
use Rattle.std.specs.Ordering.{nat_cmp, eq_by_cmp}
use Rattle.std.specs.Cmp.{nat_cmp_total, eq_by_cmp_equiv}
use Rattle.std.specs.FinMap.{nat_cmp-IsAntisymmetric}
use Rattle.std.specs.FinMap.Entries.{find, put, find-put, find-where_key, is_sorted, below_all, same_entries}
use Rattle.finite_maps.specs.Entries.{without}
use Rattle.finite_maps.specs.Map
use Rattle.finite_maps.specs.Map.{same_key, get, insert, keep, entries, get-insert, get-keep, get-empty, same_map}
use Rattle.lock_modes.specs.RowPlace.{RowPlace, place_order, place_cmp}
use Rattle.lock_modes.specs.Rows.{Tuple, Rows'}
use Rattle.lock_modes.specs.Value.{value_cmp, value_total, value_same}
use Rattle.lock_modes.specs.declared.value.Value.{Value}
use Rattle.row_tables.specs.Overlay.{laid}
use Rattle.row_tables.specs.Layers.{rows_in, rows_of}
use Rattle.row_tables.specs.Tables.{with_rows, put_rows, rows_of_tables}
use Rattle.row_tables.proofs.OverlayLemmas.{get-laid, is_eq-then, is_eq-Equal, is_lt-then}

abbrev Table : Type 0
Table = List (Value × Tuple)

-- the keys tie
abbrev same_table : ℕ → ℕ → Bool
same_table t u = eq_by_cmp nat_cmp t u

abbrev same_value : Value → Value → Bool
same_value k j = eq_by_cmp value_cmp k j

same_table-true : (t u : ℕ) → same_table t u ≡ true → t ≡ u
same_table-true t u h = nat_cmp-IsAntisymmetric t u (is_eq-Equal _ h)

front : (a b : Bool) → T (a && b) → T a
front true b p = tt
front false b p = p

back : (a b : Bool) → T (a && b) → T b
back true b p = p
back false b p = absurd p

both : (a b : Bool) → T a → T b → T (a && b)
both true b p q = q
both false b p q = p

-- ---- a row at a table and a key

chosen : (b c : Bool) (x : Tuple) (f g : Option Tuple) → cond (b && c) (Some x) (cond b (option_or f g) g) ≡ cond b (option_or (cond c (Some x) f) g) g
chosen true true x f g = refl
chosen true false x f g = refl
chosen false c x f g = refl

cond-same : (b : Bool) (x : Option Tuple) → x ≡ cond b (option_or None x) x
cond-same true x = refl
cond-same false x = refl

get-with_rows : (t : ℕ) (es : Table) (rows : Rows') (q : RowPlace) → get (with_rows t es rows) q
    ≡ cond (same_table q.0 t) (option_or (find value_cmp q.1 es) (get rows q)) (get rows q)
get-with_rows t [] rows q = cond-same (same_table q.0 t) (get rows q)
get-with_rows t (e ∷ es) rows q =
    get-insert (with_rows t es rows) (t, e.0) e.1 q
    ∙ ap (cond (same_key place_order q (t, e.0)) (Some e.1)) (get-with_rows t es rows q)
    ∙ ap (λ b. cond b (Some e.1) (cond (same_table q.0 t) (option_or (find value_cmp q.1 es) (get rows q)) (get rows q)))
    (is_eq-then (nat_cmp q.0 t) (value_cmp q.1 e.0))
    ∙ chosen (same_table q.0 t) (same_value q.1 e.0) e.1 (find value_cmp q.1 es) (get rows q)

option_or-None : (x : Option Tuple) → option_or x None ≡ x
option_or-None None = refl
option_or-None (Some x) = refl

in_its_place : (b : Bool) (f g : Option Tuple) → cond b (option_or f (cond (not b) g None)) (cond (not b) g None) ≡ cond b f g
in_its_place true f g = option_or-None f
in_its_place false f g = refl

pub get-put_rows : (t : ℕ) (es : Table) (rows : Rows') (q : RowPlace) → get (put_rows t es rows) q
    ≡ cond (same_table q.0 t) (find value_cmp q.1 es) (get rows q)
get-put_rows t es rows q =
    get-with_rows t es (keep (λ place. not (same_table place.0 t)) rows) q
    ∙ ap (λ g. cond (same_table q.0 t) (option_or (find value_cmp q.1 es) g) g) (get-keep (λ place. not (same_table place.0 t)) rows q)
    ∙ in_its_place (same_table q.0 t) (find value_cmp q.1 es) (get rows q)

found : (b : Bool) (k : Value) (t : Table) (o : Option Table) → cond b (find value_cmp k t) (find value_cmp k (unwrap_or o []))
    ≡ find value_cmp k (unwrap_or (cond b (Some t) o) [])
found true k t o = refl
found false k t o = refl

-- the row at a place is the one at its key in its table
pub get-rows_of_tables : (ts : List (ℕ × Table)) (q : RowPlace) → get (rows_of_tables ts) q ≡ find value_cmp q.1 (unwrap_or (find nat_cmp q.0 ts) [])
get-rows_of_tables [] q = get-empty place_order Tuple q
get-rows_of_tables (t ∷ ts) q =
    get-put_rows t.0 t.1 (rows_of_tables ts) q
    ∙ ap (cond (same_table q.0 t.0) (find value_cmp q.1 t.1)) (get-rows_of_tables ts q)
    ∙ found (same_table q.0 t.0) q.1 t.1 (find nat_cmp q.0 ts)

-- rows that are put for a table are in place of those that it had
pub put-tables : (ts : List (ℕ × Table)) (t : ℕ) (es : Table) → rows_of_tables (put nat_cmp t es ts) ≡ put_rows t es (rows_of_tables ts)
put-tables ts t es =
    same_map _ _ (λ q.
    get-rows_of_tables (put nat_cmp t es ts) q
    ∙ ap (λ o. find value_cmp q.1 (unwrap_or o [])) (find-put nat_cmp nat_cmp_total q.0 t es ts)
    ∙ sym (found (same_table q.0 t) q.1 es (find nat_cmp q.0 ts))
    ∙ ap (cond (same_table q.0 t) (find value_cmp q.1 es)) (sym (get-rows_of_tables ts q))
    ∙ sym (get-put_rows t es (rows_of_tables ts) q))

-- ---- the rows of one table

find-cond : (b : Bool) (k : Value) (e : Value × Tuple) (es : Table) → find value_cmp k (cond b (e ∷ es) es)
    ≡ cond (b && same_value k e.0) (Some e.1) (find value_cmp k es)
find-cond true k e es = refl
find-cond false k e es = refl

find-rows_in : (t : ℕ) (k : Value) (es : List (RowPlace × Tuple)) → find value_cmp k (rows_in t es) ≡ find place_cmp (t, k) es
find-rows_in t k [] = refl
find-rows_in t k (e ∷ es) =
    find-cond (same_table t e.0.0) k (e.0.1, e.1) (rows_in t es)
    ∙ ap (λ b. cond b (Some e.1) (find value_cmp k (rows_in t es))) (sym (is_eq-then (nat_cmp t e.0.0) (value_cmp k e.0.1)))
    ∙ ap (cond (same_key place_order (t, k) e.0) (Some e.1)) (find-rows_in t k es)

-- the row at a key of a table's rows is the one at the table and the key
pub find-rows_of : (t : ℕ) (k : Value) (rows : Rows') → find value_cmp k (rows_of t rows) ≡ get rows (t, k)
unfolding get entries
find-rows_of t k rows = find-rows_in t k rows.list

below-rows_in : (t : ℕ) (k : Value) (es : List (RowPlace × Tuple)) → T (below_all place_cmp (t, k) es) → T (below_all value_cmp k (rows_in t es))
below-rows_in t k [] h = tt
below-rows_in t k (e ∷ es) h =
    let rest : T (below_all value_cmp k (rows_in t es)) = below-rows_in t k es (back _ _ h) in
    elim (same_table t e.0.0) as (λ b. same_table t e.0.0 ≡ b → T (below_all value_cmp k (cond b ((e.0.1, e.1) ∷ rows_in t es) (rows_in t es)))) [
      | true ↦ λ is. both _ _ (subst T (is_lt-then (nat_cmp t e.0.0) (value_cmp k e.0.1) is) (front _ _ h)) rest
      | false ↦ λ is. rest
    ] refl

sorted-rows_in : (t : ℕ) (es : List (RowPlace × Tuple)) → T (is_sorted place_cmp es) → T (is_sorted value_cmp (rows_in t es))
sorted-rows_in t [] h = tt
sorted-rows_in t (e ∷ es) h =
    let rest : T (is_sorted value_cmp (rows_in t es)) = sorted-rows_in t es (back _ _ h) in
    elim (same_table t e.0.0) as (λ b. same_table t e.0.0 ≡ b → T (is_sorted value_cmp (cond b ((e.0.1, e.1) ∷ rows_in t es) (rows_in t es)))) [
      | true ↦ λ is. both _ _ (below-rows_in t e.0.1 es (subst (λ (u : ℕ). T (below_all place_cmp (
        u,
        e.0.1,
      ) es)) (sym (same_table-true t e.0.0 is)) (front _ _ h))) rest
      | false ↦ λ is. rest
    ] refl

-- the rows of a table stand in the order of their keys
pub sorted-rows_of : (t : ℕ) (rows : Rows') → T (is_sorted value_cmp (rows_of t rows))
unfolding entries
sorted-rows_of t rows = sorted-rows_in t rows.list rows.sorted

-- rows in order that have the same at each key are the table's
pub is_rows_of : (t : ℕ) (rows : Rows') (es : Table) → T (is_sorted value_cmp es) → ((k : Value) → find value_cmp k es ≡ get rows (t, k)) → es ≡ rows_of t rows
is_rows_of t rows es s h = same_entries value_cmp value_total value_same es (rows_of t rows) s (sorted-rows_of t rows) (λ k. h k ∙ sym (find-rows_of t k rows))

-- the rows that are kept for a table are its rows
pub table-rows : (ts : List (ℕ × Table)) (t : ℕ) (es : Table) → T (is_sorted value_cmp es) → unwrap_or (find nat_cmp t ts) [] ≡ es → es
    ≡ rows_of t (rows_of_tables ts)
table-rows ts t es s is = is_rows_of t (rows_of_tables ts) es s (λ k. ap (find value_cmp k) (sym is) ∙ sym (get-rows_of_tables ts (t, k)))

-- ---- a table with another row, or without one

-- rows put for a table that differ from its own by what is left at one key
replaced : (t : ℕ) (k : Value) (left : Option Tuple) (es : Table) (rows : Rows')
    → ((j : Value) → find value_cmp j es ≡ cond (same_value j k) left (get rows (t, j))) → put_rows t es rows ≡ laid (t, k) left rows
replaced t k left es rows h =
    same_map _ _ (λ q.
    get-put_rows t es rows q
    ∙ at q (same_table q.0 t) refl
    ∙ ap (λ b. cond b left (get rows q)) (sym (is_eq-then (nat_cmp q.0 t) (value_cmp q.1 k)))
    ∙ sym (get-laid (t, k) left rows q))
  where
    at : (q : RowPlace) (b : Bool) → same_table q.0 t ≡ b → cond b (find value_cmp q.1 es) (get rows q) ≡ cond (b && same_value q.1 k) left (get rows q)
    at q true is = h q.1 ∙ ap (λ (u : ℕ). cond (same_value q.1 k) left (get rows (u, q.1))) (sym (same_table-true q.0 t is))
    at q false is = refl

pub put_rows-put : (t : ℕ) (k : Value) (row : Tuple) (rows : Rows') → put_rows t (put value_cmp k row (rows_of t rows)) rows ≡ insert rows (t, k) row
put_rows-put t k row rows =
    replaced t k (Some row) _ rows (λ j.
    find-put value_cmp value_total j k row (rows_of t rows) ∙ ap (cond (same_value j k) (Some row)) (find-rows_of t j rows))

cond-not : (b : Bool) (x : Option Tuple) → cond (not b) x None ≡ cond b None x
cond-not true x = refl
cond-not false x = refl

pub put_rows-without : (t : ℕ) (k : Value) (rows : Rows') → put_rows t (without value_cmp k (rows_of t rows)) rows ≡ Map.remove rows (t, k)
put_rows-without t k rows =
    replaced t k None _ rows (λ j.
    find-where_key value_cmp (λ x. not (same_value k x)) j (λ x e. ap (λ y. not (same_value k y)) (sym (value_same j x e))) (rows_of t rows)
    ∙ cond-not (same_value k j) _
    ∙ ap (λ b. cond b None (find value_cmp j (rows_of t rows))) ((eq_by_cmp_equiv value_total).symm k j)
    ∙ ap (cond (same_value j k) None) (find-rows_of t j rows))
