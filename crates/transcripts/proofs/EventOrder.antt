-- The order of events and of outcomes by their texts.
use Rattle.std.specs.Prelude.{◌≡◌, refl, ℕ, ◌==◌, ◌||◌, Bool, true, false, cond, List, [], ◌∷◌, ◌++◌, ◌⊎◌}
use Rattle.std.proofs.Common.{sym, ap, ◌∙◌, inl, inr, append_assoc, append-nil}
use Rattle.std.specs.declared.cmp.Ordering.{Ordering}
use Rattle.std.specs.declared.cmp.Ordering.TheVariants.{Less, Equal, Greater}
use Rattle.events.specs.declared.event.Event.TheVariants.{Sent, Row, Rows, Inserted, Updated, Deleted, Began, Committed, RolledBack, Locked, Set, Warned}
use Rattle.events.specs.declared.event.Event.TheVariants.{Failed, Waiting, Resumed, Done, NotSent}
use Rattle.std.specs.Ordering.{ordering_then}
use Rattle.lock_modes.specs.declared.value.Value.{Value}
use Rattle.lock_modes.specs.Resource.{both_equal}
use Rattle.events.specs.declared.event.Event.{Event}
use Rattle.transcripts.specs.Compact.{whole_json, cell_json, array_json, event_json, session_json, outcome_json, bytes_cmp}
use Rattle.events.specs.Parts.{kind_of, number_of, values_of}
use Rattle.transcripts.specs.EventParts.{front_by}
use Rattle.transcripts.proofs.Tables.{passes_both}
use Rattle.transcripts.proofs.Codes.{is_apart, apart-order, then-assoc, then-equal, then-decided, bytes_same, bytes_tied, IsClosed, IsCode, closed_code}
use Rattle.transcripts.proofs.Codes.{items_cmp, items-same, array-order, array-cmp, array_closed}
use Rattle.transcripts.proofs.Digits.{inner-order, inner-same, whole-same}
use Rattle.transcripts.proofs.EventCodes.{cell_code, is_word, event_from, rebuilt, kind_small, no_values, no_number, tail_by, in-parts, fronts_apart, front_one}
use Rattle.transcripts.proofs.EventCodes.{whole_digits}

-- ---- what stands behind one front

-- rows by their values, numbers by their digits with the closing bracket
pub tails_cmp : ℕ → ℕ → ℕ → List Value → List Value → Ordering
tails_cmp k m n us vs = cond (k == 1) (items_cmp cell_json us vs) (cond (is_word k) Equal (bytes_cmp (whole_json m ++ 93 ∷ []) (whole_json n ++ 93 ∷ [])))

rows-order : (us vs : List Value) (s t : List ℕ)
    → bytes_cmp ((array_json cell_json us ++ 93 ∷ []) ++ s) ((array_json cell_json vs ++ 93 ∷ []) ++ t)
    ≡ ordering_then (items_cmp cell_json us vs) (bytes_cmp s t)
rows-order us vs s t =
    (λ i. bytes_cmp (append_assoc (array_json cell_json us) (93 ∷ []) s i) (append_assoc (array_json cell_json vs) (93 ∷ []) t i))
    ∙ array-order cell_json cell_code us vs (93 ∷ s) (93 ∷ t)

numbers-order : (m n : ℕ) (s t : List ℕ)
    → bytes_cmp ((whole_json m ++ 93 ∷ []) ++ s) ((whole_json n ++ 93 ∷ []) ++ t)
    ≡ ordering_then (bytes_cmp (whole_json m ++ 93 ∷ []) (whole_json n ++ 93 ∷ [])) (bytes_cmp s t)
numbers-order m n s t =
    (λ i. bytes_cmp (append_assoc (whole_json m) (93 ∷ []) s i) (append_assoc (whole_json n) (93 ∷ []) t i))
    ∙ inner-order (whole_json m) (whole_json n) 93 93 s t (whole_digits m).inner (whole_digits n).inner (inr refl) (inr refl)

tails-order : (k m n : ℕ) (us vs : List Value) (s t : List ℕ)
    → bytes_cmp (tail_by k m us ++ s) (tail_by k n vs ++ t) ≡ ordering_then (tails_cmp k m n us vs) (bytes_cmp s t)
unfolding tails_cmp
tails-order k m n us vs s t = by (k == 1) (is_word k)
  where
    by : (a b : Bool)
        → bytes_cmp (cond a (array_json cell_json us ++ 93 ∷ []) (cond b [] (whole_json m ++ 93 ∷ [])) ++ s)
        (cond a (array_json cell_json vs ++ 93 ∷ []) (cond b [] (whole_json n ++ 93 ∷ [])) ++ t)
        ≡ ordering_then (cond a (items_cmp cell_json us vs) (cond b Equal (bytes_cmp (whole_json m ++ 93 ∷ []) (whole_json n ++ 93 ∷ [])))) (bytes_cmp s t)
    by true b = rows-order us vs s t
    by false true = refl
    by false false = numbers-order m n s t

-- ---- events

-- by their fronts, and where these are one by what stands behind
pub event_cmp : Event → Event → Ordering
event_cmp x y = ordering_then (bytes_cmp (front_by (kind_of x)) (front_by (kind_of y)))
    (tails_cmp (kind_of x) (number_of x) (number_of y) (values_of x) (values_of y))

-- fronts that tie are of one kind
kinds_same : (x y : Event) → bytes_cmp (front_by (kind_of x)) (front_by (kind_of y)) ≡ Equal → kind_of x ≡ kind_of y
kinds_same x y e = front_one (kind_of x) (kind_of y) (kind_small x) (kind_small y) (bytes_same _ _ e)

-- behind one front, the number and the row decide: where there is none of either, it is as if they were one
tails-by-parts : (k m n : ℕ) (us vs : List Value)
    → ((k == 1) ≡ false → us ≡ []) → ((k == 1) ≡ false → vs ≡ [])
    → (((k == 1) || is_word k) ≡ true → m ≡ 0) → (((k == 1) || is_word k) ≡ true → n ≡ 0)
    → tails_cmp k m n us vs
    ≡ ordering_then (bytes_cmp (whole_json m ++ 93 ∷ []) (whole_json n ++ 93 ∷ [])) (bytes_cmp (array_json cell_json us) (array_json cell_json vs))
unfolding tails_cmp
tails-by-parts k m n us vs = by (k == 1) (is_word k)
  where
    numbers : m ≡ 0 → n ≡ 0 → bytes_cmp (whole_json m ++ 93 ∷ []) (whole_json n ++ 93 ∷ []) ≡ Equal
    numbers p q = (λ i. bytes_cmp (whole_json (p i) ++ 93 ∷ []) (whole_json (q i) ++ 93 ∷ [])) ∙ bytes_tied (whole_json 0 ++ 93 ∷ [])

    rows : us ≡ [] → vs ≡ [] → bytes_cmp (array_json cell_json us) (array_json cell_json vs) ≡ Equal
    rows u v = λ i. bytes_cmp (array_json cell_json (u i)) (array_json cell_json (v i))

    by : (a b : Bool) → (a ≡ false → us ≡ []) → (a ≡ false → vs ≡ []) → ((a || b) ≡ true → m ≡ 0) → ((a || b) ≡ true → n ≡ 0)
        → cond a (items_cmp cell_json us vs) (cond b Equal (bytes_cmp (whole_json m ++ 93 ∷ []) (whole_json n ++ 93 ∷ [])))
        ≡ ordering_then (bytes_cmp (whole_json m ++ 93 ∷ []) (whole_json n ++ 93 ∷ [])) (bytes_cmp (array_json cell_json us) (array_json cell_json vs))
    by true b u v p q = sym (array-cmp cell_json cell_code us vs)
        ∙ ap (λ o. ordering_then o (bytes_cmp (array_json cell_json us) (array_json cell_json vs))) (sym (numbers (p refl) (q refl)))
    by false true u v p q = sym (rows (u refl) (v refl))
        ∙ ap (λ o. ordering_then o (bytes_cmp (array_json cell_json us) (array_json cell_json vs))) (sym (numbers (p refl) (q refl)))
    by false false u v p q = sym (then-equal _)
        ∙ ap (ordering_then (bytes_cmp (whole_json m ++ 93 ∷ []) (whole_json n ++ 93 ∷ []))) (sym (rows (u refl) (v refl)))

-- an ordering ties or does not
tie_or_not : (o : Ordering) → (o ≡ Equal) ⊎ (o ≡ Equal → ⊥)
tie_or_not Less = inr (λ e. cc)
tie_or_not Equal = inl refl
tie_or_not Greater = inr (λ e. cc)

parts-order : (x y : Event) (s t : List ℕ)
    → ordering_then (bytes_cmp (front_by (kind_of x)) (front_by (kind_of y)))
    (bytes_cmp (tail_by (kind_of x) (number_of x) (values_of x) ++ s) (tail_by (kind_of y) (number_of y) (values_of y) ++ t))
    ≡ ordering_then (event_cmp x y) (bytes_cmp s t)
unfolding event_cmp
parts-order x y s t = elim (tie_or_not o) [
  | inl tie ↦
      ap (ordering_then o) (
      ap (λ k. bytes_cmp (tail_by (kind_of x) (number_of x) (values_of x) ++ s) (tail_by k (number_of y) (values_of y) ++ t)) (sym (kinds_same x y tie))
      ∙ tails-order (kind_of x) (number_of x) (number_of y) (values_of x) (values_of y) s t)
      ∙ sym (then-assoc o _ (bytes_cmp s t))
  | inr ne ↦ then-decided o _ ne ∙ sym (ap (λ p. ordering_then p (bytes_cmp s t)) (then-decided o _ ne) ∙ then-decided o _ ne)
]
  where
    o : Ordering
    o = bytes_cmp (front_by (kind_of x)) (front_by (kind_of y))

events-order : (x y : Event) (s t : List ℕ) → bytes_cmp (event_json x ++ s) (event_json y ++ t) ≡ ordering_then (event_cmp x y) (bytes_cmp s t)
events-order x y s t =
    (λ i. bytes_cmp (in-parts x i ++ s) (in-parts y i ++ t))
    ∙ (λ i. bytes_cmp (append_assoc (front_by (kind_of x)) (tail_by (kind_of x) (number_of x) (values_of x)) s i)
    (append_assoc (front_by (kind_of y)) (tail_by (kind_of y) (number_of y) (values_of y)) t i))
    ∙ apart-order (front_by (kind_of x)) (front_by (kind_of y)) _ _ (passes_both 17 (λ j k. is_apart (front_by j) (front_by k)) fronts_apart (kind_of x)
    (kind_of y) (kind_small x) (kind_small y))
    ∙ parts-order x y s t

-- the texts of two events
pub event-cmp : (x y : Event) → bytes_cmp (event_json x) (event_json y) ≡ event_cmp x y
event-cmp x y = (λ i. bytes_cmp (sym (append-nil (event_json x)) i) (sym (append-nil (event_json y)) i)) ∙ events-order x y [] [] ∙ then-equal (event_cmp x y)

-- the order of two events: by their fronts, by their numbers, and by their rows
pub event-by-parts : (x y : Event) → bytes_cmp (event_json x) (event_json y)
    ≡ ordering_then (ordering_then (bytes_cmp (front_by (kind_of x)) (front_by (kind_of y)))
    (bytes_cmp (whole_json (number_of x) ++ 93 ∷ []) (whole_json (number_of y) ++ 93 ∷ [])))
    (bytes_cmp (array_json cell_json (values_of x)) (array_json cell_json (values_of y)))
unfolding event_cmp
event-by-parts x y = elim (tie_or_not o) [
  | inl tie ↦
      event-cmp x y ∙ ap (ordering_then o) (
      tails-by-parts (kind_of x) (number_of x) (number_of y) (values_of x) (values_of y)
      (no_values x) (λ h. no_values y (ap (λ k. k == 1) (sym (kinds_same x y tie)) ∙ h))
      (no_number x) (λ h. no_number y (ap (λ k. (k == 1) || is_word k) (sym (kinds_same x y tie)) ∙ h)))
      ∙ sym (then-assoc o _ _)
  | inr ne ↦ event-cmp x y ∙ then-decided o _ ne
      ∙ sym (ap (λ p. ordering_then p (bytes_cmp (array_json cell_json (values_of x)) (array_json cell_json (values_of y)))) (then-decided o _ ne)
      ∙ then-decided o _ ne)
]
  where
    o : Ordering
    o = bytes_cmp (front_by (kind_of x)) (front_by (kind_of y))

-- tails that tie have one number and one row
tails_same : (k m n : ℕ) (us vs : List Value)
    → ((k == 1) ≡ false → us ≡ []) → ((k == 1) ≡ false → vs ≡ [])
    → (((k == 1) || is_word k) ≡ true → m ≡ 0) → (((k == 1) || is_word k) ≡ true → n ≡ 0)
    → tails_cmp k m n us vs ≡ Equal → (m ≡ n) × (us ≡ vs)
unfolding tails_cmp
tails_same k m n us vs = by (k == 1) (is_word k)
  where
    by : (a b : Bool) → (a ≡ false → us ≡ []) → (a ≡ false → vs ≡ []) → ((a || b) ≡ true → m ≡ 0) → ((a || b) ≡ true → n ≡ 0)
        → cond a (items_cmp cell_json us vs) (cond b Equal (bytes_cmp (whole_json m ++ 93 ∷ []) (whole_json n ++ 93 ∷ []))) ≡ Equal → (m ≡ n) × (us ≡ vs)
    by true b u v p q e = (p refl ∙ sym (q refl), items-same cell_json cell_code us vs e)
    by false true u v p q e = (p refl ∙ sym (q refl), u refl ∙ sym (v refl))
    by false false u v p q e = (
      whole-same m n (inner-same (whole_json m) (whole_json n) 93 93 (whole_digits m).inner (whole_digits n).inner (inr refl) (inr refl) e).0,
      u refl
          ∙ sym (v refl),
    )

event-same : (x y : Event) → event_cmp x y ≡ Equal → x ≡ y
unfolding event_cmp
event-same x y e =
    let p = both_equal (bytes_cmp (front_by (kind_of x)) (front_by (kind_of y))) _ e in
    let kinds : kind_of x ≡ kind_of y = kinds_same x y p.0 in
    let parts = tails_same (kind_of x) (number_of x) (number_of y) (values_of x) (values_of y)
    (no_values x) (λ h. no_values y (ap (λ k. k == 1) (sym kinds) ∙ h))
    (no_number x) (λ h. no_number y (ap (λ k. (k == 1) || is_word k) (sym kinds) ∙ h)) p.1 in
    sym (rebuilt x) ∙ (λ i. event_from (kinds i) (parts.0 i) (parts.1 i)) ∙ rebuilt y

event-low : (e : Event) (s t : List ℕ) → bytes_cmp (93 ∷ s) (event_json e ++ t) ≡ Greater
event-low (Sent step) s t = refl
event-low (Row values) s t = refl
event-low (Rows count) s t = refl
event-low (Inserted count) s t = refl
event-low (Updated count) s t = refl
event-low (Deleted count) s t = refl
event-low Began s t = refl
event-low Committed s t = refl
event-low RolledBack s t = refl
event-low Locked s t = refl
event-low Set s t = refl
event-low (Warned warning) s t = refl
event-low (Failed fault) s t = refl
event-low Waiting s t = refl
event-low Resumed s t = refl
event-low Done s t = refl
event-low (NotSent step) s t = refl

pub event_closed : IsClosed event_json
event_closed = record {
  order = λ x y s t. events-order x y s t ∙ ap (λ o. ordering_then o (bytes_cmp s t)) (sym (event-cmp x y));
  same = λ x y e. event-same x y (sym (event-cmp x y) ∙ e);
  low = event-low;
}

-- ---- sessions and outcomes

pub event_code : IsCode event_json
event_code = closed_code event_json event_closed

pub session_closed : IsClosed session_json
session_closed = array_closed event_json event_code

pub session_code : IsCode session_json
session_code = closed_code session_json session_closed

pub outcome_closed : IsClosed outcome_json
outcome_closed = array_closed session_json session_code
