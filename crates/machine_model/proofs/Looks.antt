-- The plan of a statement opens what the statement looks at; what a plan lets be written.
use Rattle.std.proofs.Common.{◌≡◌, refl, sym, subst, ℕ, Bool, true, false, ◌&&◌, ◌||◌, ◌==◌, List, [], ◌∷◌, map, Some, None, inl, inr, eqb-true}
use Rattle.std.specs.List.{list_any}
use Rattle.finite_maps.specs.Map.{same_key-true, same_key-refl}
use Rattle.lock_modes.specs.RowPlace.{RowPlace}
use Rattle.lock_modes.specs.Value.{value_order}
use Rattle.lock_modes.specs.Resource.{resource_order, same_resource}
use Rattle.bound_statements.specs.Plan.{Tuple, request, Request, plan, opened, asks_on, reads_table, writes_in, is_exclusive, key_at, at_key, looks_at, select_intent, select_mode}
use Rattle.lock_modes.specs.declared.mode.Mode.{Mode}
use Rattle.lock_modes.specs.declared.mode.Mode.TheVariants.{IntentExclusive, Exclusive}
use Rattle.lock_modes.specs.declared.resource.Resource.TheVariants.{Table, Row as RowOf}
use Rattle.bound_statements.specs.declared.statement.Bound.{Bound}
use Rattle.bound_statements.specs.declared.statement.Bound.TheVariants.{Select, Insert, Update, Delete, Begin, Commit, Rollback, Lock, SetVariable}
use Rattle.lock_modes.specs.declared.value.Value.{Value}
use Rattle.machine_model.proofs.Basics.{both_true, and_true, either_true, or_true_left, or_true_right}

abbrev pub writable : List Request → RowPlace → Bool
writable qs p = asks_on qs (Table p.0) is_exclusive || (asks_on qs (RowOf p.0 p.1) is_exclusive && asks_on qs (Table p.0) writes_in)

this-table : (t : ℕ) (p : RowPlace) → (p.0 == t) ≡ true → same_resource (Table t) (Table p.0) ≡ true
this-table t p e = subst (λ u. same_resource (Table t) (Table u) ≡ true) (sym (eqb-true p.0 t e)) (same_key-refl resource_order (Table t))

this-row : (t : ℕ) (k : Value) (p : RowPlace) → (p.0 == t) ≡ true → at_key (Some k) p.1 ≡ true → same_resource (RowOf t k) (RowOf p.0 p.1) ≡ true
this-row t k p e h =
    subst (λ u. same_resource (RowOf t k) (RowOf u p.1) ≡ true) (sym (eqb-true p.0 t e))
    (subst (λ v. same_resource (RowOf t k) (RowOf t v) ≡ true) (same_key-true value_order k p.1 h) (same_key-refl resource_order (RowOf t k)))

table-opens : (t : ℕ) (m : Mode) (qs : List Request) (p : RowPlace) → reads_table m ≡ true → (p.0 == t) ≡ true → opened (request (Table t) m ∷ qs) p ≡ true
table-opens t m qs p r e = or_true_left _ _ (or_true_left _ _ (and_true _ _ (this-table t p e) r))

-- some request opens the row, below a mode on the table
row-opens : (t : ℕ) (m : Mode) (qs : List Request) (p : RowPlace) → (p.0 == t) ≡ true → asks_on qs (RowOf p.0 p.1) reads_table ≡ true
    → opened (request (Table t) m ∷ qs) p ≡ true
row-opens t m qs p e h =
    or_true_right (asks_on (request (Table t) m ∷ qs) (Table p.0) reads_table) _
    (and_true _ _ (or_true_right (same_resource (Table t) (RowOf p.0 p.1) && reads_table m) _ h) (or_true_left _ _ (and_true _ _ (this-table t p e) refl)))

one-row : (t : ℕ) (k : Value) (m : Mode) (p : RowPlace) → reads_table m ≡ true → (p.0 == t) ≡ true → at_key (Some k) p.1 ≡ true
    → asks_on (request (RowOf t k) m ∷ []) (RowOf p.0 p.1) reads_table ≡ true
one-row t k m p r e h = or_true_left _ _ (and_true _ _ (this-row t k p e h) r)

new-rows : (t k : ℕ) (rows : List Tuple) (p : RowPlace) → (p.0 == t) ≡ true → list_any (λ row. at_key (Some (key_at k row)) p.1) rows ≡ true
    → asks_on (map (λ row. request (RowOf t (key_at k row)) Exclusive) rows) (RowOf p.0 p.1) reads_table ≡ true
new-rows t k [] p e h = h
new-rows t k (row ∷ rows) p e h =
    elim (either_true (at_key (Some (key_at k row)) p.1) _ h) [
      | inl x ↦ or_true_left _ _ (and_true _ _ (this-row t (key_at k row) p e x) refl)
      | inr x ↦ or_true_right (same_resource (RowOf t (key_at k row)) (RowOf p.0 p.1) && true) _ (new-rows t k rows p e x)
    ]

select-reads : (exclusive : Bool) → reads_table (select_mode exclusive) ≡ true
select-reads false = refl
select-reads true = refl

pub looked-opened : (s : Bound) (p : RowPlace) → looks_at s p ≡ true → opened (plan s) p ≡ true
looked-opened (Select t (Some key) c by out lock) p h =
    let b = both_true (p.0 == t) _ h in
    let m = select_mode lock.exclusive in
    row-opens t (select_intent lock.exclusive) (request (RowOf t key) m ∷ []) p b.0 (one-row t key m p (select-reads lock.exclusive) b.0 b.1)
looked-opened (Select t None c by out lock) p h =
    table-opens t (select_mode lock.exclusive) [] p (select-reads lock.exclusive) (both_true (p.0 == t) _ h).0
looked-opened (Insert t (Some k) rows) p h = let b = both_true (p.0 == t) _ h
    in row-opens t IntentExclusive (map (λ row. request (RowOf t (key_at k row)) Exclusive) rows) p b.0 (new-rows t k rows p b.0 b.1)
looked-opened (Insert t None rows) p h = table-opens t Exclusive [] p refl h
looked-opened (Update t (Some key) sets c) p h = let b = both_true (p.0 == t) _ h
    in row-opens t IntentExclusive (request (RowOf t key) Exclusive ∷ []) p b.0 (one-row t key Exclusive p refl b.0 b.1)
looked-opened (Update t None sets c) p h = table-opens t Exclusive [] p refl (both_true (p.0 == t) _ h).0
looked-opened (Delete t (Some key) c) p h = let b = both_true (p.0 == t) _ h
    in row-opens t IntentExclusive (request (RowOf t key) Exclusive ∷ []) p b.0 (one-row t key Exclusive p refl b.0 b.1)
looked-opened (Delete t None c) p h = table-opens t Exclusive [] p refl (both_true (p.0 == t) _ h).0
looked-opened (Lock t m n) p h = cc
looked-opened (Begin level) p h = cc
looked-opened Commit p h = cc
looked-opened Rollback p h = cc
looked-opened SetVariable p h = cc
