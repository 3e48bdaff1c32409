-- An expectation is met by one row, with its values.
use Rattle.std.proofs.Common.{◌≡◌, ◌↔◌, Bool, true, false, List, [], ◌∷◌, refl, sym, ap, subst}
use Rattle.std.proofs.lemmas.List.Folds.{list_all-map}
use Rattle.std.specs.Cmp.{both_ways}
use Rattle.std.specs.List.{list_all}
use Rattle.std.specs.Prelude.{map}
use Rattle.std.specs.Ordering.{eq_by_cmp}
use Rattle.std.proofs.lemmas.Bool.{and_from, and_parts, eqb-true}
use Rattle.finite_maps.specs.Map.{same_key-refl, same_key-true}
use Rattle.lock_modes.specs.Value.{value_cmp, value_order}
use Rattle.lock_modes.specs.declared.value.Value.{Value}
use Rattle.events.specs.declared.event.Event.{Event}
use Rattle.events.specs.declared.event.Event.TheVariants.{Sent, Row, Rows, Inserted, Updated, Deleted, Began, Committed, RolledBack, Locked}
use Rattle.events.specs.declared.event.Event.TheVariants.{Set, Warned, Failed, Waiting, Resumed, Done, NotSent}
use Rattle.class_texts.specs.Expected.{is_one, is_row, meets, same_values}

-- values that are told to be the same are
same-told : (vs ws : List Value) → same_values vs ws ≡ true → vs ≡ ws
same-told [] [] is = refl
same-told [] (w ∷ ws) is = absurd (let e : false ≡ true = is in cc)
same-told (v ∷ vs) [] is = absurd (let e : false ≡ true = is in cc)
same-told (v ∷ vs) (w ∷ ws) is =
    let p = and_parts (eq_by_cmp value_cmp v w) (same_values vs ws) is in
    let first = same_key-true value_order v w p.0 in
    let rest = same-told vs ws p.1 in
    λ i. first i ∷ rest i

same-refl : (vs : List Value) → same_values vs vs ≡ true
same-refl [] = refl
same-refl (v ∷ vs) = and_from (eq_by_cmp value_cmp v v) (same_values vs vs) (same_key-refl value_order v) (same-refl vs)

-- a test that tells whether they are the same is this one
pub same-tested : (t : Bool) (vs ws : List Value) → (t ≡ true → vs ≡ ws) → (vs ≡ ws → t ≡ true) → t ≡ same_values vs ws
same-tested t vs ws there back =
    both_ways t (same_values vs ws) (λ h. subst (λ xs. same_values vs xs ≡ true) (there h) (same-refl vs)) (λ h. back (same-told vs ws h))

row-told : (values : List Value) (e : Event) → is_row values e ≡ true → e ≡ Row values
row-told values (Row ws) is = ap Row (sym (same-told values ws is))
row-told values (Sent k) is = cc
row-told values (Inserted n) is = cc
row-told values (Updated n) is = cc
row-told values (Deleted n) is = cc
row-told values Began is = cc
row-told values Committed is = cc
row-told values RolledBack is = cc
row-told values Locked is = cc
row-told values Set is = cc
row-told values (Warned w) is = cc
row-told values (Failed f) is = cc
row-told values Waiting is = cc
row-told values Resumed is = cc
row-told values Done is = cc
row-told values (NotSent k) is = cc
row-told values (Rows n) is = cc

one-told : (e : Event) → is_one e ≡ true → e ≡ Rows 1
one-told (Rows n) is = ap Rows (eqb-true n 1 is)
one-told (Sent k) is = cc
one-told (Inserted n) is = cc
one-told (Updated n) is = cc
one-told (Deleted n) is = cc
one-told Began is = cc
one-told Committed is = cc
one-told RolledBack is = cc
one-told Locked is = cc
one-told Set is = cc
one-told (Warned w) is = cc
one-told (Failed f) is = cc
one-told Waiting is = cc
one-told Resumed is = cc
one-told Done is = cc
one-told (NotSent k) is = cc
one-told (Row r) is = cc

met-told : (values : List Value) (events : List Event) → meets values events ≡ true → events ≡ Row values ∷ Rows 1 ∷ []
met-told values [] is = absurd (let e : false ≡ true = is in cc)
met-told values (a ∷ []) is = absurd (let e : false ≡ true = is in cc)
met-told values (a ∷ b ∷ []) is =
    let p = and_parts (is_row values a) (is_one b) is in
    let row = row-told values a p.0 in
    let one = one-told b p.1 in
    λ i. row i ∷ one i ∷ []
met-told values (a ∷ b ∷ c ∷ events) is = absurd (let e : false ≡ true = is in cc)

row-met : (values : List Value) → meets values (Row values ∷ Rows 1 ∷ []) ≡ true
row-met values = and_from (same_values values values) true (same-refl values) refl

pub row-is-met : (values : List Value) (events : List Event) → (meets values events ≡ true) ↔ (events ≡ Row values ∷ Rows 1 ∷ [])
row-is-met values events = (met-told values events, λ h. subst (λ es. meets values es ≡ true) (sym h) (row-met values))

-- by what is seen of all classes
pub all_met : {X : Type 0} (items : X → List Event) (values : List Value) (seen : List X)
    → list_all (λ x. meets values (items x)) seen ≡ list_all (meets values) (map items seen)
all_met items values seen = sym (list_all-map (meets values) items seen)
