-- Rows that are placed at their keys one after another.
use Rattle.std.specs.Ordering.{nat_cmp}
use Rattle.std.specs.Cmp.{tied_then}
use Rattle.std.specs.FinMap.Entries.{find, put, find-put}
use Rattle.std.proofs.Common.{◌≡◌, refl, sym, ap, ◌∙◌, ℕ, Bool, true, false, cond, ◌&&◌, ◌||◌, List, [], ◌∷◌, ◌++◌, Some, None, is_some}
use Rattle.finite_maps.specs.Map.{same_key, same_key-true, same_key-refl, get, insert, keep, get-insert, get-keep, same_map}
use Rattle.lock_modes.specs.RowPlace.{RowPlace, place_order}
use Rattle.lock_modes.specs.Rows.{Tuple, Rows', Write}
use Rattle.lock_modes.specs.Value.{value_order, value_cmp, value_total}
use Rattle.lock_modes.specs.declared.value.Value.{Value}
use Rattle.bound_statements.specs.Plan.{key_at, looks_at}
use Rattle.row_tables.specs.Layers.{session_order}
use Rattle.statement_evaluation.specs.Effect.{placed, consed_write, visible}
use Rattle.statement_evaluation.proofs.ListLemmas.{onto, onto-[], onto-write, Each}
use Rattle.statement_evaluation.proofs.WriteLemmas.{insert_at, looks-each}

-- the rows so far are among some rows, and with those that are left they are all
pub record Placing (t k : ℕ) (rows : Rows') (new left : List Tuple) (writes : List Write) (keys : List (Value × ℕ)) : Type 0 where
  pub so_far : Rows'
  pub all : onto writes (placed t k left so_far) ≡ placed t k new rows
  pub taken : (v : Value) → is_some (get so_far (t, v)) ≡ (is_some (get rows (t, v)) || is_some (find value_cmp v keys))

or-false : (b : Bool) → b ≡ (b || false)
or-false true = refl
or-false false = refl

or-true : (b : Bool) → true ≡ (b || true)
or-true true = refl
or-true false = refl

pub placing-starts : (t k : ℕ) (rows : Rows') (new : List Tuple) → Placing t k rows new new [] []
placing-starts t k rows new = record { so_far = rows; all = onto-[] (placed t k new rows); taken = λ v. or-false (is_some (get rows (t, v))) }

at-test : (t k : ℕ) (row : Tuple) (more : List Tuple) (now : Rows') (b : Bool) → is_some (get now (t, key_at k row)) ≡ b
    → placed t k (row ∷ more) now ≡ cond b None (consed_write (t, key_at k row) (Some row) (placed t k more (insert now (t, key_at k row) row)))
at-test t k row more now b is = ap (λ b. cond b None (consed_write (t, key_at k row) (Some row) (placed t k more (insert now (t, key_at k row) row)))) is

module _ (t k : ℕ) (rows : Rows') (new : List Tuple) (row : Tuple) (more : List Tuple) (writes : List Write) (keys : List (Value × ℕ)) where
  same_place-value : (v w : Value) → same_key place_order (t, v) (t, w) ≡ same_key value_order v w
  same_place-value v w = sym (tied_then (nat_cmp t t) (value_cmp v w)) ∙ ap (λ b. b && same_key value_order v w) (same_key-refl session_order t)

  -- a row goes in at its key
  pub placing-goes : (n : ℕ) → Placing t k rows new (row ∷ more) writes keys
      → (is_some (get rows (t, key_at k row)) || is_some (find value_cmp (key_at k row) keys)) ≡ false
      → Placing t k rows new more (writes ++ record { place = (t, key_at k row); left = Some row } ∷ []) (put value_cmp (key_at k row) n keys)
  placing-goes n p is = record {
    so_far = insert p.so_far (t, key_at k row) row;
    all = sym (onto-write writes (t, key_at k row) row (placed t k more (insert p.so_far (t, key_at k row) row)))
        ∙ ap (onto writes) (sym (at-test t k row more p.so_far false (p.taken (key_at k row) ∙ is))) ∙ p.all;
    taken = λ v.
        ap is_some (get-insert p.so_far (t, key_at k row) row (t, v) ∙ ap (λ b. cond b (Some row) (get p.so_far (t, v))) (same_place-value v (key_at k row)))
        ∙ at v (same_key value_order v (key_at k row))
        ∙ sym (ap (λ o. is_some (get rows (t, v)) || is_some o) (find-put value_cmp value_total v (key_at k row) n keys));
  }
    where
      at : (v : Value) (b : Bool) → is_some (cond b (Some row) (get p.so_far (t, v)))
          ≡ (is_some (get rows (t, v)) || is_some (cond b (Some n) (find value_cmp v keys)))
      at v true = or-true (is_some (get rows (t, v)))
      at v false = p.taken v

-- ---- rows are placed alike in what is kept

keep-insert : (p : RowPlace → Bool) (rows : Rows') (q : RowPlace) (row : Tuple) → p q ≡ true → insert (keep p rows) q row ≡ keep p (insert rows q row)
keep-insert p rows q row h = same_map _ _ (λ x. get-insert (keep p rows) q row x ∙ ap (cond (same_key place_order x q) (Some row)) (get-keep p rows x)
    ∙ at x (same_key place_order x q) refl ∙ sym (get-keep p (insert rows q row) x ∙ ap (λ o. cond (p x) o None) (get-insert rows q row x)))
  where
    at : (x : RowPlace) (b : Bool) → same_key place_order x q ≡ b → cond (same_key place_order x q) (Some row) (cond (p x) (get rows x) None)
        ≡ cond (p x) (cond (same_key place_order x q) (Some row) (get rows x)) None
    at x true is =
        let here : p x ≡ true = ap p (same_key-true place_order x q is) ∙ h in
        ap (λ b. cond b (Some row) (cond (p x) (get rows x) None)) is
        ∙ sym (ap (λ b. cond b (cond (same_key place_order x q) (Some row) (get rows x)) None) here ∙ ap (λ b. cond b (Some row) (get rows x)) is)
    at x false is = ap (λ b. cond b (Some row) (cond (p x) (get rows x) None)) is ∙ sym (ap (λ b. cond (p x) (cond b (Some row) (get rows x)) None) is)

placed-kept : (p : RowPlace → Bool) (t k : ℕ) (new : List Tuple) (rows : Rows') → Each (λ row. p (t, key_at k row) ≡ true) new → placed t k new (keep p rows)
    ≡ placed t k new rows
placed-kept p t k [] rows each = refl
placed-kept p t k (row ∷ more) rows each =
    let q : RowPlace = (t, key_at k row) in
    let seen : get (keep p rows) q ≡ get rows q = get-keep p rows q ∙ ap (λ b. cond b (get rows q) None) each.0 in
    ap (λ o. cond (is_some o) None (consed_write q (Some row) (placed t k more (insert (keep p rows) q row)))) seen
    ∙ ap (λ m. cond (is_some (get rows q)) None (consed_write q (Some row) (placed t k more m))) (keep-insert p rows q row each.0)
    ∙ ap (λ o. cond (is_some (get rows q)) None (consed_write q (Some row) o)) (placed-kept p t k more (insert rows q row) each.1)

pub placed-visible : (t k : ℕ) (new : List Tuple) (rows : Rows') → placed t k new (visible (insert_at t k new) rows) ≡ placed t k new rows
placed-visible t k new rows = placed-kept (looks_at (insert_at t k new)) t k new rows (looks-each t k new)
