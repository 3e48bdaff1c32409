-- A statement writes where it looks.
use Rattle.std.proofs.Common.{◌≡◌, refl, ℕ, suc, Bool, true, false, cond, ◌==◌, List, [], ◌∷◌, map, Option, Some, None, is_some, pos, eq-eqb}
use Rattle.std.specs.List.{filter, list_any}
use Rattle.std.proofs.lemmas.Bool.{and_from, or_left, or_right}
use Rattle.finite_maps.specs.Map.{get, insert, keep, entries, same_key-refl}
use Rattle.lock_modes.specs.RowPlace.{RowPlace}
use Rattle.lock_modes.specs.Rows.{Tuple, Rows', Write}
use Rattle.lock_modes.specs.Value.{value_order}
use Rattle.lock_modes.specs.declared.value.Value.{Value}
use Rattle.lock_modes.specs.declared.value.Value.TheVariants.{Int}
use Rattle.events.specs.declared.event.Fault.{Fault}
use Rattle.events.specs.declared.event.Fault.TheVariants.{Duplicate, OutOfRange}
use Rattle.events.specs.declared.event.Event.{Event}
use Rattle.events.specs.declared.event.Event.TheVariants.{Row as RowEvent, Rows, Inserted, Updated, Deleted}
use Rattle.bound_statements.specs.Plan.{key_at, at_key, looks_at}
use Rattle.bound_statements.specs.declared.condition.Condition.{Condition}
use Rattle.bound_statements.specs.declared.statement.Assignment.{Assignment}
use Rattle.bound_statements.specs.declared.statement.SortKey.{SortKey}
use Rattle.bound_statements.specs.declared.statement.Output.{Output}
use Rattle.bound_statements.specs.declared.statement.Output.TheVariants.{Columns, Aggregates}
use Rattle.bound_statements.specs.declared.statement.Bound.{Bound}
use Rattle.bound_statements.specs.declared.statement.Bound.TheVariants.{Select, Insert, Update, Delete, Begin, Commit, Rollback, Lock, SetVariable}
use Rattle.statement_evaluation.specs.Evaluate.{holds}
use Rattle.statement_evaluation.specs.Effect.{Effect, Gives, Faults, effect, visible, matching, passed, consed, consed_write, sorted_by, shown, all_aggregated}
use Rattle.statement_evaluation.specs.Effect.{assigned, all_assigned, placed, numbered, or_fault, counted}
use Rattle.statement_evaluation.proofs.ListLemmas.{Each, Each-map}

-- what is there has it
abbrev pub OnSome : {A : Type 0} → Option A → (A → Type 0) → Type 0
OnSome None P = Unit {0}
OnSome (Some x) P = P x

-- the writes of an effect have it
abbrev pub OnGives : Effect → (List Write → Type 0) → Type 0
OnGives (Gives events writes) P = P writes
OnGives (Faults f) P = Unit {0}

-- the entries that are kept pass the test
pub each-kept : (test : RowPlace → Bool) (rows : Rows') → Each (λ (e : RowPlace × Tuple). test e.0 ≡ true) (entries (keep test rows))
unfolding entries keep
each-kept test rows = filtered rows.list
  where
    filtered : (es : List (RowPlace × Tuple)) → Each (λ (e : RowPlace × Tuple). test e.0 ≡ true) (filter (λ e. test e.0) es)
    filtered [] = tt
    filtered (e ∷ es) = elim (test e.0) as (λ b. test e.0 ≡ b
        → Each (λ (x : RowPlace × Tuple). test x.0 ≡ true) (cond b (e ∷ filter (λ e. test e.0) es) (filter (λ e. test e.0) es)))
        [ true ↦ λ is. (is, filtered es) | false ↦ λ is. filtered es ] refl

pub any-some : {A : Type 0} (o : Option A) (T : Type 0) → T → OnSome o (λ _. T)
any-some None T t = tt
any-some (Some x) T t = t

pub each-any : {A : Type 0} (P : A → Type 0) → ((x : A) → P x) → (xs : List A) → Each P xs
each-any P f [] = tt
each-any P f (x ∷ xs) = (f x, each-any P f xs)

-- what holds of each entry holds of those that match
module _ (Q : RowPlace × Tuple → Type 0) where
  each-consed : (e : RowPlace × Tuple) (o : Option (List (RowPlace × Tuple))) → Q e → OnSome o (Each Q) → OnSome (consed e o) (Each Q)
  each-consed e None q h = tt
  each-consed e (Some es) q h = (q, h)

  each-passed : (e : RowPlace × Tuple) (b : Option Bool) (o : Option (List (RowPlace × Tuple))) → Q e → OnSome o (Each Q) → OnSome (passed e b o) (Each Q)
  each-passed e None o q h = tt
  each-passed e (Some true) o q h = each-consed e o q h
  each-passed e (Some false) o q h = h

  pub each-matching : (c : Condition) (es : List (RowPlace × Tuple)) → Each Q es → OnSome (matching c es) (Each Q)
  each-matching c [] h = tt
  each-matching c (e ∷ es) h = each-passed e (holds e.1 c) (matching c es) h.0 (each-matching c es h.1)

-- a row that is left at a place
abbrev pub leaves : RowPlace → Tuple → Write
leaves p row = record { place = p; left = Some row }

-- what holds of each thing that is written holds of the writes of an effect
module _ (R : Write → Type 0) where
  each-consed_write : (p : RowPlace) (r : Option Tuple) (o : Option (List Write)) → OnSome r (λ row. R (leaves p row)) → OnSome o (Each R)
      → OnSome (consed_write p r o) (Each R)
  each-consed_write p None o here h = tt
  each-consed_write p (Some row) None here h = tt
  each-consed_write p (Some row) (Some ws) here h = (here, h)

  pub each-all_assigned : (Q : RowPlace × Tuple → Type 0) (sets : List Assignment)
      → ((e : RowPlace × Tuple) → Q e → OnSome (assigned e.1 sets e.1) (λ row. R (leaves e.0 row)))
      → (es : List (RowPlace × Tuple)) → Each Q es → OnSome (all_assigned sets es) (Each R)
  each-all_assigned Q sets f [] h = tt
  each-all_assigned Q sets f (e ∷ es) h = each-consed_write e.0 (assigned e.1 sets e.1) (all_assigned sets es) (f e h.0) (each-all_assigned Q sets f es h.1)

  pub each-placed : (t k : ℕ) (new : List Tuple) (rows : Rows') → Each (λ row. R (leaves (t, key_at k row) row)) new → OnSome (placed t k new rows) (Each R)
  each-placed t k [] rows h = tt
  each-placed t k (row ∷ more) rows h =
      let at : RowPlace = (t, key_at k row) in
      elim (is_some (get rows at)) as (λ b. OnSome (cond b None (consed_write at (Some row) (placed t k more (insert rows at row)))) (Each R)) [
        | true ↦ tt
        | false ↦ each-consed_write at (Some row) (placed t k more (insert rows at row)) h.0 (each-placed t k more (insert rows at row) h.1)
      ]

  pub each-numbered : (t n : ℕ) (new : List Tuple) → Each (λ row. (v : Value) → R (leaves (t, v) row)) new → Each R (numbered t n new)
  each-numbered t n [] h = tt
  each-numbered t n (row ∷ more) h = (h.0 (Int (pos n)), each-numbered t (suc n) more h.1)

  pub each-deleted : (es : List (RowPlace × Tuple)) → Each (λ (e : RowPlace × Tuple). R (record { place = e.0; left = None })) es
      → Each R (map (λ (e : RowPlace × Tuple). record { place = e.0; left = None }) es)
  each-deleted [] h = tt
  each-deleted (e ∷ es) h = (h.0, each-deleted es h.1)

  pub on-or_fault : (f : Fault) (o : Option (List Write)) (event : ℕ → Event) → OnSome o (Each R) → OnGives (or_fault f o event) (Each R)
  on-or_fault f None event h = tt
  on-or_fault f (Some ws) event h = h

  pub on-matched : (Q : RowPlace × Tuple → Type 0) (o : Option (List (RowPlace × Tuple))) (then' : List (RowPlace × Tuple) → Effect)
      → ((es : List (RowPlace × Tuple)) → Each Q es → OnGives (then' es) (Each R)) → OnSome o (Each Q)
      → OnGives (elim o [ None ↦ Faults OutOfRange | Some es ↦ then' es ]) (Each R)
  on-matched Q None then' f h = tt
  on-matched Q (Some es) then' f h = f es h

  on-shown : (out : Output) (es : List (RowPlace × Tuple)) → OnGives (shown out es) (Each R)
  on-shown (Columns columns) es = tt
  on-shown (Aggregates each) es = on (all_aggregated each es)
    where
      on : (o : Option (List Value)) → OnGives (elim o [ None ↦ Faults OutOfRange | Some vs ↦ Gives (RowEvent vs ∷ Rows 1 ∷ []) [] ]) (Each R)
      on None = tt
      on (Some vs) = tt

  pub on-selected : (by : List SortKey) (out : Output) (o : Option (List (RowPlace × Tuple)))
      → OnGives (elim o [ None ↦ Faults OutOfRange | Some es ↦ shown out (sorted_by by es) ]) (Each R)
  on-selected by out None = tt
  on-selected by out (Some es) = on-shown out (sorted_by by es)

-- the effects of an UPDATE and of a DELETE, by what is known of the entries that it looks at
module _ (P : RowPlace → Type 0) where
  abbrev At : Write → Type 0
  At w = P w.place

  abbrev Stands : RowPlace × Tuple → Type 0
  Stands e = P e.0

  pub updated-each : (sets : List Assignment) (c : Condition) (es : List (RowPlace × Tuple)) → Each Stands es
      → OnGives (elim (matching c es) [ None ↦ Faults OutOfRange | Some es ↦ or_fault OutOfRange (all_assigned sets es) Updated ]) (Each At)
  updated-each sets c es h =
      on-matched At Stands (matching c es) (λ es. or_fault OutOfRange (all_assigned sets es) Updated)
      (λ es k. on-or_fault At OutOfRange (all_assigned sets es) Updated
      (each-all_assigned At Stands sets (λ e p. any-some (assigned e.1 sets e.1) (P e.0) p) es k))
      (each-matching Stands c es h)

  pub deleted-each : (c : Condition) (es : List (RowPlace × Tuple)) → Each Stands es
      → OnGives (elim (matching c es) [
        | None ↦ Faults OutOfRange
        | Some es ↦ counted Deleted
            (map (λ (e : RowPlace × Tuple). record { place = e.0; left = None }) es)
      ]) (Each At)
  deleted-each c es h =
      on-matched At Stands (matching c es) (λ es. counted Deleted (map (λ (e : RowPlace × Tuple). record { place = e.0; left = None }) es))
      (λ es k. each-deleted At es k) (each-matching Stands c es h)

-- ---- an insert looks at the keys of its rows

each-among : {A : Type 0} (R : A → A → Bool) → ((x : A) → R x x ≡ true) → (xs : List A) → Each (λ y. list_any (λ x. R x y) xs ≡ true) xs
each-among R same [] = tt
each-among R same (x ∷ xs) = (
  or_left (R x x) _ (same x),
  Each-map (λ y. list_any (λ x. R x y) xs ≡ true) (λ y. list_any (λ z. R z y) (x ∷ xs)
      ≡ true) (λ y h. or_right (R x y) _ h) xs (each-among R same xs),
)

abbrev pub insert_at : ℕ → ℕ → List Tuple → Bound
insert_at t k new = Insert t (Some k) new

pub looks-each : (t k : ℕ) (new : List Tuple) → Each (λ row. looks_at (insert_at t k new) (t, key_at k row) ≡ true) new
looks-each t k new =
    Each-map (λ row. list_any (λ x. at_key (Some (key_at k x)) (key_at k row)) new ≡ true) (λ row. looks_at (insert_at t k new) (t, key_at k row)
    ≡ true) (λ row h. and_from (t == t) _ (eq-eqb t t refl) h) new
    (each-among (λ x row. at_key (Some (key_at k x)) (key_at k row)) (λ x. same_key-refl value_order (key_at k x)) new)

-- ---- what holds where a statement looks holds where it writes

module _ (P : RowPlace → Type 0) where
  seen-each : (st : Bound) (rows : Rows') → ((p : RowPlace) → looks_at st p ≡ true → P p) → Each (λ (e : RowPlace × Tuple). P e.0) (entries (visible st rows))
  seen-each st rows sees = Each-map (λ (e : RowPlace × Tuple). looks_at st e.0 ≡ true) (λ (e : RowPlace × Tuple). P e.0) (λ e h. sees e.0 h)
      (entries (visible st rows)) (each-kept (looks_at st) rows)

  pub effect-each : (st : Bound) (rows : Rows') → ((p : RowPlace) → looks_at st p ≡ true → P p) → OnGives (effect st rows) (Each (λ (w : Write). P w.place))
  unfolding effect
  effect-each (Select t key c by out l) rows sees = on-selected (λ w. P w.place) by out (matching c (entries (visible (Select t key c by out l) rows)))
  effect-each (Insert t (Some k) new) rows sees =
      on-or_fault (λ w. P w.place) Duplicate (placed t k new (visible (Insert t (Some k) new) rows)) Inserted
      (each-placed (λ w. P w.place) t k new _ (Each-map (λ row. looks_at (Insert t (Some k) new) (t, key_at k row)
      ≡ true) (λ row. P (t, key_at k row)) (λ row h. sees (t, key_at k row) h) new (looks-each t k new)))
  effect-each (Insert t None new) rows sees = each-numbered (λ w. P w.place) t _ new
      (each-any (λ row. (v : Value) → P (t, v)) (λ row v. sees (t, v) (eq-eqb t t refl)) new)
  effect-each (Update t key sets c) rows sees = updated-each P sets c (entries (visible (Update t key sets c) rows)) (seen-each (Update t key sets c) rows sees)
  effect-each (Delete t key c) rows sees = deleted-each P c (entries (visible (Delete t key c) rows)) (seen-each (Delete t key c) rows sees)
  effect-each (Lock t m n) rows sees = tt
  effect-each SetVariable rows sees = tt
  effect-each (Begin level) rows sees = tt
  effect-each Commit rows sees = tt
  effect-each Rollback rows sees = tt
