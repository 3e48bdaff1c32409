-- Where a statement leaves rows, and what numbers say.
use Rattle.std.proofs.Common.{◌≡◌, refl, sym, ap, ◌∙◌, ℕ, ◌<◌, List, [], ◌∷◌, length, map, get_or, Bool, true, false, ◌||◌, Some, None, All, ◌⊎◌, inl, inr}
use Rattle.std.proofs.Common.{Ordering, Less, Equal, Greater}
use Rattle.std.specs.Prelude.{is_some, cond}
use Rattle.std.specs.Ordering.{ordering_reverse}
use Rattle.std.specs.List.Sorted.{IsStrictlySortedBy}
use Rattle.std.specs.List.{list_any, Contains}
use Rattle.std.specs.FinMap.Entries.{is_some-find}
use Rattle.std.proofs.lemmas.Bool.{cases_order}
use Rattle.std.proofs.lemmas.List.Elements.{All-nil, All-cons}
use Rattle.numbered_specs.proofs.AskedLemmas.{contains-head, contains-tail}
use Rattle.std.proofs.lemmas.Map.Keys.{Less-from_sorted}
use Rattle.finite_maps.specs.Map.{get, entries, get-keep, same_key, same_key-refl}
use Rattle.lock_modes.specs.RowPlace.{RowPlace, place_order, place_cmp}
use Rattle.lock_modes.specs.Rows.{Rows', Tuple, Write}
use Rattle.lock_modes.specs.Resource.{resource_cmp, resource_total}
use Rattle.lock_modes.specs.declared.resource.Resource.{Resource}
use Rattle.lock_modes.specs.declared.resource.Resource.TheVariants.{Table, Row as RowOf}
use Rattle.bound_statements.specs.declared.statement.Bound.{Bound}
use Rattle.bound_statements.specs.declared.statement.Bound.TheVariants.{Select, Insert, Update, Delete, Begin, Commit, Rollback, Lock, SetVariable}
use Rattle.bound_statements.specs.Plan.{Request, key_at, looks_at, key_lock}
use Rattle.statement_evaluation.specs.Effect.{Effect, Gives, Faults, effect, visible, matching, placed}
use Rattle.statement_evaluation.proofs.ListLemmas.{Each, Each-map}
use Rattle.statement_evaluation.proofs.WriteLemmas.{OnGives, each-any, each-placed, each-numbered, on-or_fault, on-selected, updated-each, deleted-each}
use Rattle.events.specs.declared.event.Event.TheVariants.{Inserted}
use Rattle.events.specs.declared.event.Fault.TheVariants.{Duplicate}
use Rattle.bound_specs.specs.Spec.{Spec}
use Rattle.numbered_specs.specs.declared.request.ResourceNumber.{ResourceNumber}
use Rattle.numbered_specs.specs.Numbers.{place_of, resource_of, HasNumber, IsNumbering, Numbers}
use Rattle.numbered_specs.specs.Places.{IsKnownPlace, WritesKnown}

-- ---- rows that are there

left-or : (a b : Bool) → a ≡ true → (a || b) ≡ true
left-or true b e = refl
left-or false b e = cc

right-or : (a b : Bool) → b ≡ true → (a || b) ≡ true
right-or true b e = refl
right-or false b e = e

abbrev keys_of : List (RowPlace × Tuple) → List RowPlace
keys_of es = map (λ (e : RowPlace × Tuple). e.0) es

abbrev IsAmong : List RowPlace → RowPlace × Tuple → Type 0
IsAmong places e = list_any (same_key place_order e.0) places ≡ true

among : (es : List (RowPlace × Tuple)) → Each (IsAmong (keys_of es)) es
among [] = tt
among (e ∷ es) = (
  left-or _ _ (same_key-refl place_order e.0),
  Each-map (IsAmong (keys_of es)) (IsAmong (keys_of (e ∷ es))) (λ x h. right-or (same_key place_order x.0 e.0) _ h) es (among es),
)

abbrev IsThere : Rows' → RowPlace → Type 0
IsThere rows p = is_some (get rows p) ≡ true

stand : (rows : Rows') → Each (λ (e : RowPlace × Tuple). IsThere rows e.0) (entries rows)
unfolding get entries
stand rows = Each-map (IsAmong (keys_of rows.list)) (λ (e : RowPlace × Tuple). IsThere rows e.0)
    (λ e h. is_some-find place_cmp e.0 rows.list ∙ h) rows.list (among rows.list)

seen : (st : Bound) (rows : Rows') (p : RowPlace) → IsThere (visible st rows) p → IsThere rows p
seen st rows p e = on (looks_at st p) (ap is_some (sym (get-keep (looks_at st) rows p)) ∙ e)
  where
    on : (b : Bool) → is_some (cond b (get rows p) None) ≡ true → IsThere rows p
    on true h = h
    on false h = cc

seen-known : (st : Bound) (rows : Rows') → Each (λ (e : RowPlace × Tuple). IsKnownPlace st rows e.0) (entries (visible st rows))
seen-known st rows = Each-map (λ (e : RowPlace × Tuple). IsThere (visible st rows) e.0) (λ (e : RowPlace × Tuple). IsKnownPlace st rows e.0)
    (λ e h. inl (seen st rows e.0 h)) (entries (visible st rows)) (stand (visible st rows))

-- ---- keys that are asked for

asked-keys : (t k : ℕ) (new : List Tuple)
    → Each (λ row. Contains (map (λ (q : Request). q.resource) (map (key_lock t k) new)) (RowOf t (key_at k row))) new
asked-keys t k [] = tt
asked-keys t k (row ∷ more) = (
  contains-head _ _,
  Each-map (λ x. Contains (map (λ (q : Request). q.resource) (map (key_lock t k) more)) (RowOf t (key_at k x)))
      (λ x. Contains (map (λ (q : Request). q.resource) (map (key_lock t k) (row ∷ more))) (RowOf t (key_at k x)))
      (λ x h. contains-tail _ _ _ h) more (asked-keys t k more),
)

new-known : (t k : ℕ) (new : List Tuple) (rows : Rows') → Each (λ row. IsKnownPlace (Insert t (Some k) new) rows (t, key_at k row)) new
new-known t k new rows = Each-map (λ row. Contains (map (λ (q : Request). q.resource) (map (key_lock t k) new)) (RowOf t (key_at k row)))
    (λ row. IsKnownPlace (Insert t (Some k) new) rows (t, key_at k row)) (λ row h. inr (inl (contains-tail _ _ _ h))) new (asked-keys t k new)

-- ---- what an effect writes

effect-known : (st : Bound) (rows : Rows') → OnGives (effect st rows) (Each (λ (w : Write). IsKnownPlace st rows w.place))
unfolding effect
effect-known (Select t key c by out l) rows =
    on-selected (λ w. IsKnownPlace (Select t key c by out l) rows w.place) by out (matching c (entries (visible (Select t key c by out l) rows)))
effect-known (Insert t (Some k) new) rows =
    let R : Write → Type 0 = λ w. IsKnownPlace (Insert t (Some k) new) rows w.place in
    on-or_fault R Duplicate (placed t k new (visible (Insert t (Some k) new) rows)) Inserted (each-placed R t k new _ (new-known t k new rows))
effect-known (Insert t None new) rows =
    each-numbered (λ w. IsKnownPlace (Insert t None new) rows w.place) t _ new
    (each-any (λ row. (v : _) → IsKnownPlace (Insert t None new) rows (t, v)) (λ row v. inr (inr refl)) new)
effect-known (Update t key sets c) rows =
    updated-each (IsKnownPlace (Update t key sets c) rows) sets c (entries (visible (Update t key sets c) rows)) (seen-known (Update t key sets c) rows)
effect-known (Delete t key c) rows =
    deleted-each (IsKnownPlace (Delete t key c) rows) c (entries (visible (Delete t key c) rows)) (seen-known (Delete t key c) rows)
effect-known (Lock t m n) rows = tt
effect-known SetVariable rows = tt
effect-known (Begin level) rows = tt
effect-known Commit rows = tt
effect-known Rollback rows = tt

each-all : {A : Type 0} (P : A → Type 0) (xs : List A) → Each P xs → All P xs
each-all P [] h = All-nil P
each-all P (x ∷ xs) h = All-cons P x xs h.0 (each-all P xs h.1)

pub writes-known : (st : Bound) (rows : Rows') → WritesKnown st rows (effect st rows)
writes-known st rows = on (effect st rows) (effect-known st rows)
  where
    on : (e : Effect) → OnGives e (Each (λ (w : Write). IsKnownPlace st rows w.place)) → WritesKnown st rows e
    on (Gives events writes) h = each-all (λ (w : Write). IsKnownPlace st rows w.place) writes h
    on (Faults f) h = tt

-- ---- numbers

itself : (o : Ordering) → o ≡ ordering_reverse o → o ≡ Equal
itself Less e = cc
itself Equal e = refl
itself Greater e = cc

-- of two places of a list that rises, none is before the other where they have one resource
never-before : (rs : List Resource) (i j : ℕ) → IsStrictlySortedBy resource_cmp rs → i < j → j < length rs → get_or rs i (Table 0) ≡ get_or rs j (Table 0) → ⊥
never-before rs i j rise lt inside e =
    two (sym (Less-from_sorted resource_cmp rs i j (Table 0) rise lt inside) ∙ ap (λ r. resource_cmp r (get_or rs j (Table 0))) e
    ∙ itself _ (resource_total.antisymm (get_or rs j (Table 0)) (get_or rs j (Table 0))))
  where
    two : Less ≡ Equal → ⊥
    two h = cc

pub numbers-apart : (spec : Spec) (numbers : Numbers) → IsNumbering spec numbers → (i j : ResourceNumber) → HasNumber numbers.resources i
    → HasNumber numbers.resources j → resource_of numbers.resources i ≡ resource_of numbers.resources j → place_of i ≡ place_of j
numbers-apart spec numbers is i j below above e = on (cases_order (place_of i) (place_of j))
  where
    on : (place_of i ≡ place_of j) ⊎ ((place_of i < place_of j) ⊎ (place_of j < place_of i)) → place_of i ≡ place_of j
    on (inl same) = same
    on (inr (inl lt)) = absurd (never-before numbers.resources (place_of i) (place_of j) is.names.rise lt above e)
    on (inr (inr gt)) = absurd (never-before numbers.resources (place_of j) (place_of i) is.names.rise gt below (sym e))
