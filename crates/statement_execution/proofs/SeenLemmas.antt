-- What a statement sees of rows: by a key, or of a whole table.
use Rattle.std.specs.Ordering.{nat_cmp, eq_by_cmp}
use Rattle.std.specs.Cmp.{both_ways}
use Rattle.std.specs.FinMap.Entries.{where_key}
use Rattle.std.proofs.Common.{◌≡◌, refl, sym, ap, ◌∙◌, subst, ℕ, Bool, true, false, cond, ◌&&◌, ◌==◌, List, [], ◌∷◌, ◌++◌, Some, None, eqb-true, eq-eqb}
use Rattle.std.proofs.lemmas.Bool.{and_from, and_parts}
use Rattle.finite_maps.specs.Map.{same_key, same_key-true, same_key-refl, get, insert, keep, entries, empty, get-insert, get-keep, get-empty, same_map}
use Rattle.lock_modes.specs.RowPlace.{RowPlace, place_order, place_cmp}
use Rattle.lock_modes.specs.Rows.{Tuple, Rows'}
use Rattle.lock_modes.specs.Value.{value_order}
use Rattle.lock_modes.specs.declared.value.Value.{Value}
use Rattle.row_tables.specs.Layers.{session_order, rows_in, rows_of}
use Rattle.bound_statements.specs.declared.condition.Condition.{Condition}
use Rattle.statement_evaluation.specs.Evaluate.{holds}
use Rattle.statement_evaluation.specs.Effect.{matching, passed}
use Rattle.statement_execution.specs.Seen.{is_named, named, in_table}

-- ---- by a key

pub here : (t : ℕ) (key : Value) (p : RowPlace) → is_named t (Some key) p ≡ true → p ≡ (t, key)
here t key p e =
    let both = and_parts (p.0 == t) _ e in
    let table : p.0 ≡ t = eqb-true p.0 t both.0 in
    let value : key ≡ p.1 = same_key-true value_order key p.1 both.1 in
    λ i. (table i, sym value i)

pub there : (t : ℕ) (key : Value) → is_named t (Some key) (t, key) ≡ true
there t key = and_from (t == t) _ (eq-eqb t t refl) (same_key-refl value_order key)

module _ (t : ℕ) (key : Value) (rows : Rows') where
  none-kept : get rows (t, key) ≡ None → keep (is_named t (Some key)) rows ≡ empty
  none-kept none = same_map _ _ (λ p. get-keep (is_named t (Some key)) rows p ∙ at p (is_named t (Some key) p) refl ∙ sym (get-empty place_order Tuple p))
    where
      at : (p : RowPlace) (b : Bool) → is_named t (Some key) p ≡ b → cond (is_named t (Some key) p) (get rows p) None ≡ None
      at p true is = ap (λ b. cond b (get rows p) None) is ∙ ap (get rows) (here t key p is) ∙ none
      at p false is = ap (λ b. cond b (get rows p) None) is

  one-kept : (row : Tuple) → get rows (t, key) ≡ Some row → keep (is_named t (Some key)) rows ≡ insert empty (t, key) row
  one-kept row some = same_map _ _ (λ p. get-keep (is_named t (Some key)) rows p ∙ at p (is_named t (Some key) p) refl
      ∙ sym (get-insert empty (t, key) row p ∙ ap (cond (same_key place_order p (t, key)) (Some row)) (get-empty place_order Tuple p)))
    where
      at : (p : RowPlace) (b : Bool) → is_named t (Some key) p ≡ b → cond (is_named t (Some key) p) (get rows p) None
          ≡ cond (same_key place_order p (t, key)) (Some row) None
      at p true is =
          let same : same_key place_order p (t, key) ≡ true = ap (λ q. same_key place_order q (t, key)) (here t key p is) ∙ same_key-refl place_order (t, key)
          in
          ap (λ b. cond b (get rows p) None) is ∙ ap (get rows) (here t key p is) ∙ some ∙ sym (ap (λ b. cond b (Some row) None) same)
      at p false is = ap (λ b. cond b (get rows p) None) is ∙ sym (other p (same_key place_order p (t, key)) refl is)
        where
          other : (p : RowPlace) (b : Bool) → same_key place_order p (t, key) ≡ b → is_named t (Some key) p ≡ false
              → cond (same_key place_order p (t, key)) (Some row) None ≡ None
          other p true same is = absurd (let e : true ≡ false = sym (there t key) ∙ ap (is_named t (Some key)) (sym (same_key-true place_order p (t, key) same))
              ∙ is in cc)
          other p false same is = ap (λ b. cond b (Some row) None) same

entries-one : (p : RowPlace) (row : Tuple) → entries (insert (empty {X = Tuple} {o = place_order}) p row) ≡ (p, row) ∷ []
unfolding entries insert empty
entries-one p row = refl

entries-none : entries (empty {X = Tuple} {o = place_order}) ≡ []
unfolding entries empty
entries-none = refl

pub named-none : (t : ℕ) (key : Value) (rows : Rows') → get rows (t, key) ≡ None → named t (Some key) rows ≡ []
named-none t key rows e = ap entries (none-kept t key rows e) ∙ entries-none

pub named-one : (t : ℕ) (key : Value) (rows : Rows') (row : Tuple) → get rows (t, key) ≡ Some row → named t (Some key) rows ≡ ((t, key), row) ∷ []
named-one t key rows row e = ap entries (one-kept t key rows row e) ∙ entries-one (t, key) row

-- ---- a whole table

table-test : (t u : ℕ) → eq_by_cmp nat_cmp t u ≡ (u == t)
table-test t u =
    both_ways (eq_by_cmp nat_cmp t u) (u == t)
    (λ e. eq-eqb u t (sym (same_key-true session_order t u e)))
    (λ e. subst (λ (v : ℕ). eq_by_cmp nat_cmp t v ≡ true) (sym (eqb-true u t e)) (same_key-refl session_order t))

table-entries : (t : ℕ) (es : List (RowPlace × Tuple)) → where_key place_cmp (is_named t None) es ≡ in_table t (rows_in t es)
table-entries t [] = refl
table-entries t (e ∷ es) = at (e.0.0 == t) refl (table-entries t es)
  where
    at : (b : Bool) → (e.0.0 == t) ≡ b → where_key place_cmp (is_named t None) es ≡ in_table t (rows_in t es)
        → cond (b && true) (e ∷ where_key place_cmp (is_named t None) es) (where_key place_cmp (is_named t None) es)
        ≡ in_table t (cond (eq_by_cmp nat_cmp t e.0.0) ((e.0.1, e.1) ∷ rows_in t es) (rows_in t es))
    at true is more =
        (λ i. ((eqb-true e.0.0 t is i, e.0.1), e.1) ∷ more i)
        ∙ sym (ap (λ (b : Bool). in_table t (cond b ((e.0.1, e.1) ∷ rows_in t es) (rows_in t es))) (table-test t e.0.0 ∙ is))
    at false is more = more ∙ sym (ap (λ (b : Bool). in_table t (cond b ((e.0.1, e.1) ∷ rows_in t es) (rows_in t es))) (table-test t e.0.0 ∙ is))

pub named-table : (t : ℕ) (rows : Rows') → named t None rows ≡ in_table t (rows_of t rows)
unfolding entries keep
named-table t rows = table-entries t rows.list

-- ---- what matches

module _ (t : ℕ) (key : Value) (rows : Rows') (c : Condition) where
  pub matching-absent : get rows (t, key) ≡ None → matching c (named t (Some key) rows) ≡ Some []
  matching-absent e = ap (matching c) (named-none t key rows e)

  pub matching-one : (row : Tuple) → get rows (t, key) ≡ Some row → matching c (named t (Some key) rows)
      ≡ passed {A = RowPlace × Tuple} ((t, key), row) (holds row c) (Some [])
  matching-one row e = ap (matching c) (named-one t key rows row e)

  pub matching-fault : (row : Tuple) → get rows (t, key) ≡ Some row → holds row c ≡ None → matching c (named t (Some key) rows) ≡ None
  matching-fault row e f = matching-one row e ∙ ap (λ o. passed {A = RowPlace × Tuple} ((t, key), row) o (Some [])) f

  pub matching-tested : (row : Tuple) (b : Bool) → get rows (t, key) ≡ Some row → holds row c ≡ Some b → matching c (named t (Some key) rows)
      ≡ Some ([] ++ cond b (((t, key), row) ∷ []) [])
  matching-tested row b e f = matching-one row e ∙ ap (λ o. passed {A = RowPlace × Tuple} ((t, key), row) o (Some [])) f ∙ at b
    where
      at : (b : Bool) → passed {A = RowPlace × Tuple} ((t, key), row) (Some b) (Some []) ≡ Some ([] ++ cond b (((t, key), row) ∷ []) [])
      at true = refl
      at false = refl
