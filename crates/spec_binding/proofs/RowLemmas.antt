-- The values of a new row are of the types of their columns.
use Rattle.std.proofs.Common.{◌≡◌, refl, sym, ap, subst, ◌∙◌, ℕ, zero, suc, ◌+◌, ◌<◌, ◌≤◌, Bool, true, false, cond, List, [], ◌∷◌, ◌++◌, length}
use Rattle.std.proofs.Common.{All, get_or, Option, Some, None, arith, append_assoc}
use Rattle.std.specs.Prelude.{◌||◌, ◌==◌, pos}
use Rattle.std.specs.List.{list_any, position_from, AllByRecursion, IsDistinct}
use Rattle.std.proofs.lemmas.Bool.{ne_eqb, eqb-true, eqb-false}
use Rattle.std.proofs.lemmas.List.{get_or-map, length-map}
use Rattle.std.proofs.lemmas.List.Elements.{All-head, All-tail}
use Rattle.std.proofs.lemmas.List.Folds.{list_any-append}
use Rattle.std.proofs.lemmas.Map.Steps.{length-le_from_distinct_below}
use Rattle.lock_modes.specs.declared.value.Value.{Value}
use Rattle.lock_modes.specs.declared.value.Value.TheVariants.{Int}
use Rattle.binding_model.specs.declared.tables.ColumnType.{ColumnType}
use Rattle.binding_model.specs.declared.tables.ColumnType.TheVariants.{Number, Text}
use Rattle.binding_model.specs.declared.tables.Table.{Table}
use Rattle.binding_model.specs.Names.{repeats}
use Rattle.binding_model.specs.Statements.{numbers_from, stands_at, place_of, places, value_at, at_places}
use Rattle.binding_model.specs.Tables.{type_of, width}
use Rattle.binding_model.specs.Types.{differ, value_type, row_mixes}
use Rattle.spec_binding.proofs.SentLemmas.{length-numbers}

pub or_false : (a b : Bool) → (a || b) ≡ false → (a ≡ false) × (b ≡ false)
or_false true b e = absurd (cc e)
or_false false b e = (refl, e)

pub same_if : (a b : ColumnType) → differ a b ≡ false → a ≡ b
same_if Number Number e = refl
same_if Number Text e = absurd (cc e)
same_if Text Number e = absurd (cc e)
same_if Text Text e = refl

-- ---- numbers that do not repeat are distinct

apart : (before after : List ℕ) (m : ℕ) (ns : List ℕ) → repeats (before ++ m ∷ after) ns ≡ false → AllByRecursion (λ y. (m == y) ≡ false) ns
apart before after m [] e = tt
apart before after m (n ∷ ns) e =
    let both = or_false (list_any (λ x. x == n) (before ++ m ∷ after)) (repeats ((before ++ m ∷ after) ++ n ∷ []) ns) e in
    let split = or_false (list_any (λ x. x == n) before) (list_any (λ x. x == n) (m ∷ after)) (sym (list_any-append
    (λ x. x == n) before (m ∷ after)) ∙ both.0) in
    let here = or_false (m == n) (list_any (λ x. x == n) after) split.1 in
    (here.0, apart before (after ++ n ∷ []) m ns (subst (λ l. repeats l ns ≡ false) (append_assoc before (m ∷ after) (n ∷ [])) both.1))

distinct : (before ns : List ℕ) → repeats before ns ≡ false → IsDistinct ◌==◌ ns
unfolding IsDistinct
distinct before [] e = tt
distinct before (n ∷ ns) e =
    let both = or_false (list_any (λ m. m == n) before) (repeats (before ++ n ∷ []) ns) e in
    (apart before [] n ns both.1, distinct (before ++ n ∷ []) ns both.1)

-- ---- each column stands among those that are written

symmetric : (m n : ℕ) → (m == n) ≡ false → (n == m) ≡ false
symmetric m n e = ne_eqb n m (λ h. eqb-false m n e (sym h))

absent : (c k : ℕ) (ds : List ℕ) → position_from (λ d. d == c) k ds ≡ None → AllByRecursion (λ y. (c == y) ≡ false) ds
absent c k [] e = tt
absent c k (d ∷ ds) e = go (absent c (k + 1) ds) (d == c) refl e
  where
    go : (position_from (λ d. d == c) (k + 1) ds ≡ None → AllByRecursion (λ y. (c == y) ≡ false) ds) → (b : Bool) → (d == c) ≡ b
        → cond b (Some k) (position_from (λ d. d == c) (k + 1) ds) ≡ None → AllByRecursion (λ y. (c == y) ≡ false) (d ∷ ds)
    go later true s h = absurd (cc h)
    go later false s h = (symmetric d c s, later h)

below_all : (w : ℕ) (ns : List ℕ) → All (λ n. n < w) ns → (q : ℕ) → list_any (λ y. q == y) ns ≡ true → q < w
below_all w [] h q e = absurd (cc e)
below_all w (n ∷ ns) h q e = go (below_all w ns (All-tail (λ n. n < w) n ns h) q) (q == n) refl e
  where
    go : (list_any (λ y. q == y) ns ≡ true → q < w) → (b : Bool) → (q == n) ≡ b → (b || list_any (λ y. q == y) ns) ≡ true → q < w
    go later true s f = let first : n < w = All-head (λ n. n < w) n ns h in omega (arith, first, eqb-true q n s)
    go later false s f = later f

crowded : (w c : ℕ) (ns : List ℕ) → length ns ≡ w → repeats [] ns ≡ false → All (λ n. n < w) ns → c < w → AllByRecursion (λ y. (c == y) ≡ false) ns → ⊥
unfolding IsDistinct
crowded w c ns len once all lt none =
    let within : All (λ n. n < w) (c ∷ ns) = cons_below in
    let few : length (c ∷ ns) ≤ w = length-le_from_distinct_below (c ∷ ns) w (none, distinct [] ns once) (below_all w (c ∷ ns) within) in
    omega (arith, few, len)
  where
    cons_below : All (λ n. n < w) (c ∷ ns)
    cons_below zero d l = lt
    cons_below (suc k) d l = all k d (omega arith)

-- where it stands, it is that column
stands : (c k p : ℕ) (ds : List ℕ) → position_from (λ d. d == c) k ds ≡ Some p → (i : ℕ) × ((p ≡ k + i) × ((i < length ds) × (get_or ds i 0 ≡ c)))
stands c k p [] e = absurd (cc e)
stands c k p (d ∷ ds) e = go (stands c (k + 1) p ds) (d == c) refl e
  where
    go : (position_from (λ d. d == c) (k + 1) ds ≡ Some p → (i : ℕ) × ((p ≡ k + 1 + i) × ((i < length ds) × (get_or ds i 0 ≡ c))))
        → (b : Bool) → (d == c) ≡ b → cond b (Some k) (position_from (λ d. d == c) (k + 1) ds) ≡ Some p
        → (i : ℕ) × ((p ≡ k + i) × ((i < length (d ∷ ds)) × (get_or (d ∷ ds) i 0 ≡ c)))
    go later true s h = let same : k ≡ p = cc in (0, (omega (arith, same), (omega arith, eqb-true d c s)))
    go later false s h = let rest = later h in (suc rest.0, (omega (arith, rest.1.0), (omega (arith, rest.1.1.0), rest.1.1.1)))

-- ---- the values at their places

typed_at : (t : Table) (cs : List ℕ) (vs : List Value) (i : ℕ) (d : Value) → row_mixes t cs vs ≡ false → i < length cs → i < length vs
    → value_type (get_or vs i d) ≡ type_of t (get_or cs i 0)
typed_at t [] vs i d e h k = absurd (omega arith)
typed_at t (c ∷ cs) [] i d e h k = absurd (omega arith)
typed_at t (c ∷ cs) (v ∷ vs) zero d e h k = sym (same_if (type_of t c) (value_type v) (or_false (differ (type_of t c) (value_type v)) (row_mixes t cs vs) e).0)
typed_at t (c ∷ cs) (v ∷ vs) (suc i) d e h k =
    typed_at t cs vs i d (or_false (differ (type_of t c) (value_type v)) (row_mixes t cs vs) e).1 (omega arith) (omega arith)

get_or-numbers : (k n i d : ℕ) → i < n → get_or (numbers_from k n) i d ≡ k + i
get_or-numbers k zero i d h = absurd (omega arith)
get_or-numbers k (suc n) zero d h = omega arith
get_or-numbers k (suc n) (suc i) d h = let rest = get_or-numbers (suc k) n i d (omega arith) in omega (arith, rest)

-- the value of a column
value-is : (t : Table) (columns : List ℕ) (row : List Value) (c : ℕ) → c < width t
    → get_or (at_places (places t columns) row) c (Int (pos 0)) ≡ value_at row (place_of columns c)
value-is t columns row c h =
    let ns = numbers_from 0 (width t) in
    let many : length ns ≡ width t = length-numbers 0 (width t) in
    let own : 0 + c ≡ c = omega arith in
    let at : length (places t columns) ≡ width t = length-map ns (place_of columns) ∙ many in
    get_or-map (value_at row) (places t columns) c 0 (Int (pos 0)) (omega (arith, at))
    ∙ ap (value_at row) (get_or-map (place_of columns) ns c 0 0 (omega (arith, many)) ∙ ap (place_of columns) (get_or-numbers 0 (width t) c 0 h ∙ own))

pub row-typed : (t : Table) (columns : List ℕ) (row : List Value) → length columns ≡ width t → repeats [] columns ≡ false → All (λ c. c < width t) columns
    → length row ≡ width t → row_mixes t columns row ≡ false
    → (c : ℕ) → c < width t → value_type (get_or (at_places (places t columns) row) c (Int (pos 0))) ≡ type_of t c
row-typed t columns row len once all wide typed c h = ap value_type (value-is t columns row c h) ∙ go (stands_at columns c) refl
  where
    go : (o : Option ℕ) → stands_at columns c ≡ o → value_type (value_at row (elim o [ None ↦ 0 | Some p ↦ p ])) ≡ type_of t c
    go None e = absurd (crowded (width t) c columns len once all h (absent c 0 columns e))
    go (Some p) e =
        let found = stands c 0 p columns e in
        let same : p ≡ found.0 = omega (arith, found.1.0) in
        ap (λ i. value_type (get_or row i (Int (pos 0)))) same
        ∙ typed_at t columns row found.0 (Int (pos 0)) typed found.1.1.0 (omega (arith, found.1.1.0, len, wide))
        ∙ ap (type_of t) found.1.1.1
