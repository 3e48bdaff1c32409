-- The places where rows have lain, and their cells.
use Rattle.std.proofs.Common.{◌≡◌, ◌≢◌, refl, sym, ap, ◌∙◌, subst, ℕ, zero, suc, ◌+◌, ◌<◌, ◌≤◌, arith, inl, inr}
use Rattle.std.proofs.Common.{List, [], ◌∷◌, ◌++◌, length, map, get_or, set, take, drop, All, Option, Some, None, Ordering, Less, Equal, Greater}
use Rattle.std.specs.Prelude.{Result, Ok, Err, IfOk, IfErr, slice_get}
use Rattle.std.specs.Option.{option_map}
use Rattle.std.specs.Global.{Vec}
use Rattle.std.specs.Vec.{vec_items}
use Rattle.std.specs.Ordering.{is_lt, ordering_index, ordering_reverse}
use Rattle.std.specs.List.{AllByRecursion, Contains, HoldsAt}
use Rattle.std.specs.List.Sorted.{IsBinarySearchResult, IsNonDecreasingBy, IsSearchInRange, IsSortedBy, IsStrictlySortedBy}
use Rattle.std.proofs.lemmas.List.{append_assoc, length-map, map-append, set-get_or, take-append-drop}
use Rattle.std.proofs.lemmas.List.Elements.{All-cons, All-get_or, All-head, All-push, All-tail, All-weaker}
use Rattle.std.proofs.lemmas.List.Sorted.{searchable_from_sorted}
use Rattle.std.proofs.lemmas.Map.Keys.{Less-from_sorted}
use Rattle.lock_modes.specs.RowPlace.{RowPlace}
use Rattle.lock_modes.specs.Value.{value_cmp, value_same, value_total}
use Rattle.lock_modes.specs.declared.value.Value.{Value}
use Rattle.marked_rows.specs.Places.{AllRise, AreApart, HasMore, Index, IsAbsent, IsBefore, IsFree, IsGap, IsIndexOf, IsMore, IsPlaceOf}
use Rattle.marked_rows.specs.Places.{key_cmp, keys_of, placed, placed_from}
use Rattle.marked_rows.specs.declared.places.KeyedCell.{KeyedCell}

abbrev Placed : Type 0
Placed = RowPlace × ℕ

abbrev entry : ℕ → KeyedCell → Placed
entry n e = ((n, e.key), e.cell)

-- ---- searching the keys of a table

rising-sorted : (es : List KeyedCell) → IsStrictlySortedBy key_cmp es → IsSortedBy (λ (a b : KeyedCell). is_lt (value_cmp a.key b.key)) es
rising-sorted es rise k d low lt =
    let less = Less-from_sorted key_cmp es k (k + 1) d rise (omega arith) lt in
    ap is_lt (value_total.antisymm (get_or es (k + 1) d).key (get_or es k d).key ∙ ap ordering_reverse less)

-- keys that rise may be searched
searchable : (es : List KeyedCell) (k : Value) → IsStrictlySortedBy key_cmp es → IsNonDecreasingBy (λ (e : KeyedCell). ordering_index (value_cmp e.key k)) es
searchable es k rise = searchable_from_sorted value_total (λ (e : KeyedCell). e.key) es k (rising-sorted es rise)

itself : (o : Ordering) → o ≡ ordering_reverse o → o ≡ Equal
itself Less e = cc
itself Equal e = refl
itself Greater e = cc

less-equal : Less ≡ Equal → ⊥
less-equal e = cc

pub get-at : {A : Type 0} (xs : List A) (i : ℕ) (d : A) → i < length xs → slice_get xs i ≡ Some (get_or xs i d)
get-at [] i d lt = absurd (omega (arith, lt))
get-at (x ∷ xs) zero d lt = refl
get-at (x ∷ xs) (suc i) d lt = get-at xs i d (omega (arith, lt))

found : (es : List KeyedCell) (k : Value) (i : ℕ) → i < length es → HoldsAt (λ (e : KeyedCell). value_cmp e.key k ≡ Equal) es i → IsIndexOf es k i
found es k i lt at =
    let d : KeyedCell = record { key = k; cell = 0 } in
    ap (option_map (λ (e : KeyedCell). e.key)) (get-at es i d lt) ∙ ap Some (value_same _ _ (at d))

gap : (es : List KeyedCell) (k : Value) (i : ℕ) → i ≤ length es → IsStrictlySortedBy key_cmp es
    → IsBinarySearchResult (λ (e : KeyedCell). value_cmp e.key k) es (Err i) → IsGap es k i
gap es k i le rise h =
    let parts = h (searchable es k rise) in
    record {
      inside = le;
      before = λ j d lt. parts.0 j d (omega arith) lt;
      behind = λ j d from lt.
          value_total.antisymm k (get_or es j d).key ∙ ap ordering_reverse (parts.1 j d from lt);
    }

-- what a search among the keys tells
pub searched : (es : List KeyedCell) (k : Value) (r : Result ℕ ℕ) → IsStrictlySortedBy key_cmp es → IsSearchInRange r (length es)
    → IsBinarySearchResult (λ (e : KeyedCell). value_cmp e.key k) es r → IfOk r (IsIndexOf es k) × IfErr r (IsGap es k)
searched es k (Ok i) rise range h = (found es k i range h, tt)
searched es k (Err i) rise range h = (tt, gap es k i range rise h)

-- ---- a key more

all-by : (c : KeyedCell → Ordering) (es : List KeyedCell) → ((j : ℕ) (d : KeyedCell) → j < length es → c (get_or es j d) ≡ Less)
    → AllByRecursion (λ e. c e ≡ Less) es
all-by c [] each = tt
all-by c (e ∷ es) each = (each 0 e (omega arith), all-by c es (λ j d lt. each (suc j) d (omega (arith, lt))))

all-more : (c : KeyedCell → Ordering) (es : List KeyedCell) (i : ℕ) (e : KeyedCell) → AllByRecursion (λ x. c x ≡ Less) es → c e ≡ Less
    → AllByRecursion (λ x. c x ≡ Less) (take i es ++ e ∷ drop i es)
all-more c [] zero e all is = (is, tt)
all-more c [] (suc i) e all is = (is, tt)
all-more c (x ∷ es) zero e all is = (is, all)
all-more c (x ∷ es) (suc i) e all is = (all.0, all-more c es i e all.1 is)

rise-insert : (es : List KeyedCell) (i : ℕ) (e : KeyedCell) → IsStrictlySortedBy key_cmp es
    → ((j : ℕ) (d : KeyedCell) → j < i → j < length es → key_cmp (get_or es j d) e ≡ Less)
    → ((j : ℕ) (d : KeyedCell) → i ≤ j → j < length es → key_cmp e (get_or es j d) ≡ Less) → IsStrictlySortedBy key_cmp (take i es ++ e ∷ drop i es)
unfolding IsStrictlySortedBy
rise-insert [] zero e rise before behind = (tt, tt)
rise-insert [] (suc i) e rise before behind = (tt, tt)
rise-insert (x ∷ es) zero e rise before behind = (all-by (key_cmp e) (x ∷ es) (λ j d lt. behind j d (omega arith) lt), rise)
rise-insert (x ∷ es) (suc i) e rise before behind = (
  all-more (key_cmp x) es i e rise.0 (before 0 x (omega arith) (omega arith)),
  rise-insert es i e rise.1 (λ j d lt inside. before (suc j) d (omega (arith, lt)) (omega (arith, inside)))
      (λ j d le lt. behind (suc j) d (omega (arith, le)) (omega (arith, lt))),
)

-- keys still rise where one is put into its gap
pub rise-more : (es : List KeyedCell) (k : Value) (n i : ℕ) → IsStrictlySortedBy key_cmp es → IsGap es k i
    → IsStrictlySortedBy key_cmp (take i es ++ record { key = k; cell = n } ∷ drop i es)
rise-more es k n i rise there =
    rise-insert es i (record { key = k; cell = n }) rise (λ j d lt inside. there.before j d lt) (λ j d le lt. there.behind j d le lt)

pub keys-rise : (es : List KeyedCell) → IsStrictlySortedBy key_cmp es → IsStrictlySortedBy value_cmp (keys_of es)
unfolding IsStrictlySortedBy
keys-rise [] rise = tt
keys-rise (e ∷ es) rise = (lower es rise.0, keys-rise es rise.1)
  where
    lower : (xs : List KeyedCell) → AllByRecursion (λ x. key_cmp e x ≡ Less) xs → AllByRecursion (λ y. value_cmp e.key y ≡ Less) (keys_of xs)
    lower [] all = tt
    lower (x ∷ xs) all = (all.0, lower xs all.1)

pub none-rises : IsStrictlySortedBy key_cmp []
unfolding IsStrictlySortedBy
none-rises = tt

-- ---- the places of a table

place-left : (xs ys : List Placed) (p : RowPlace) (n : ℕ) → IsPlaceOf xs p n → IsPlaceOf (xs ++ ys) p n
place-left [] ys p n never = absurd never
place-left (x ∷ xs) ys p n (inl here) = inl here
place-left (x ∷ xs) ys p n (inr later) = inr (place-left xs ys p n later)

place-right : (xs ys : List Placed) (p : RowPlace) (n : ℕ) → IsPlaceOf ys p n → IsPlaceOf (xs ++ ys) p n
place-right [] ys p n there = there
place-right (x ∷ xs) ys p n there = inr (place-right xs ys p n there)

place-in : (n : ℕ) (es : List KeyedCell) (i : ℕ) (e : KeyedCell) → slice_get es i ≡ Some e → IsPlaceOf (placed n es) (n, e.key) e.cell
place-in n [] i e at = cc
place-in n (x ∷ es) zero e at =
    let same : x ≡ e = grind (arith, at) in inl (ap (λ (y : KeyedCell). let p : RowPlace = (n, y.key) in p) same, ap (λ (y : KeyedCell). y.cell) same)
place-in n (x ∷ es) (suc i) e at = inr (place-in n es i e at)

place-from : (n : ℕ) (tables : List (List KeyedCell)) (t m i : ℕ) (e : KeyedCell) → m ≡ n + t → slice_get (get_or tables t []) i ≡ Some e
    → IsPlaceOf (placed_from n tables) (m, e.key) e.cell
place-from n [] t m i e is at = cc
place-from n (es ∷ tables) zero m i e is at =
    let same : n ≡ m = omega (arith, is) in
    subst (λ x. IsPlaceOf (placed n es ++ placed_from (suc n) tables) (x, e.key) e.cell) same
    (place-left (placed n es) (placed_from (suc n) tables) (n, e.key) e.cell (place-in n es i e at))
place-from n (es ∷ tables) (suc t) m i e is at =
    place-right (placed n es) (placed_from (suc n) tables) (m, e.key) e.cell (place-from (suc n) tables t m i e (omega (arith, is)) at)

-- the cell of each key of a table is that of its place
pub place-there : (tables : List (List KeyedCell)) (t i : ℕ) (e : KeyedCell) → slice_get (get_or tables t []) i ≡ Some e
    → IsPlaceOf (placed_from 0 tables) (t, e.key) e.cell
place-there tables t i e at = place-from 0 tables t t i e (omega arith) at

absent-append : (p : RowPlace) (xs ys : List Placed) → IsAbsent p xs → IsAbsent p ys → IsAbsent p (xs ++ ys)
absent-append p [] ys left right = right
absent-append p (x ∷ xs) ys left right = (left.0, absent-append p xs ys left.1 right)

absent-table : (t n : ℕ) (k : Value) (es : List KeyedCell) → t ≢ n → IsAbsent (t, k) (placed n es)
absent-table t n k [] ne = tt
absent-table t n k (x ∷ es) ne = ((λ e. ne (ap (λ (p : RowPlace). p.0) e)), absent-table t n k es ne)

-- a table before the first one has no place
absent-before : (t n : ℕ) (k : Value) (tables : List (List KeyedCell)) → t < n → IsAbsent (t, k) (placed_from n tables)
absent-before t n k [] lt = tt
absent-before t n k (es ∷ tables) lt =
    absent-append (t, k) (placed n es) (placed_from (suc n) tables) (absent-table t n k es (λ e. omega (arith, lt, e)))
    (absent-before t (suc n) k tables (omega (arith, lt)))

absent-key : (n : ℕ) (es : List KeyedCell) (k : Value) → (Contains (keys_of es) k → ⊥) → IsAbsent (n, k) (placed n es)
absent-key n [] k never = tt
absent-key n (x ∷ es) k never =
    ((λ e. never (0, omega arith, sym (ap (λ (p : RowPlace). p.1) e))), absent-key n es k (λ c. never (suc c.0, (let lt = c.1 in omega (arith, lt)), c.2)))

absent-from : (n : ℕ) (tables : List (List KeyedCell)) (t m : ℕ) (k : Value) → m ≡ n + t → (Contains (keys_of (get_or tables t [])) k → ⊥)
    → IsAbsent (m, k) (placed_from n tables)
absent-from n [] t m k is never = tt
absent-from n (es ∷ tables) zero m k is never =
    absent-append (m, k) (placed n es) (placed_from (suc n) tables)
    (let e : n ≡ m = omega (arith, is) in subst (λ x. IsAbsent (x, k) (placed n es)) e (absent-key n es k never))
    (absent-before m (suc n) k tables (omega (arith, is)))
absent-from n (es ∷ tables) (suc t) m k is never =
    absent-append (m, k) (placed n es) (placed_from (suc n) tables) (absent-table m n k es (λ e. omega (arith, is, e)))
    (absent-from (suc n) tables t m k (omega (arith, is)) never)

pub absent-place : (tables : List (List KeyedCell)) (t : ℕ) (k : Value) → (Contains (keys_of (get_or tables t [])) k → ⊥)
    → IsAbsent (t, k) (placed_from 0 tables)
absent-place tables t k never = absent-from 0 tables t t k (omega arith) never

-- a key that has a gap is not there
pub absent-gap : (es : List KeyedCell) (k : Value) (i : ℕ) → IsGap es k i → Contains (keys_of es) k → ⊥
absent-gap es k i there c = at es i c.0 there.before there.behind c.1 c.2
  where
    same : value_cmp k k ≡ Equal
    same = itself (value_cmp k k) (value_total.antisymm k k)

    at : (xs : List KeyedCell) (m j : ℕ) → ((l : ℕ) (d : KeyedCell) → l < m → value_cmp (get_or xs l d).key k ≡ Less)
        → ((l : ℕ) (d : KeyedCell) → m ≤ l → l < length xs → value_cmp k (get_or xs l d).key ≡ Less) → j < length (keys_of xs) → get_or (keys_of xs) j k ≡ k → ⊥
    at [] m j before behind lt is = absurd (omega (arith, lt))
    at (x ∷ xs) zero zero before behind lt is = less-equal (sym (ap (value_cmp k) (sym is) ∙ behind 0 x (omega arith) (omega arith)) ∙ same)
    at (x ∷ xs) (suc m) zero before behind lt is = less-equal (sym (ap (λ y. value_cmp y k) (sym is) ∙ before 0 x (omega arith)) ∙ same)
    at (x ∷ xs) zero (suc j) before behind lt is =
        at xs zero j (λ l d low. absurd (omega (arith, low))) (λ l d le inside. behind (suc l) d (omega arith) (omega (arith, inside))) (omega (arith, lt)) is
    at (x ∷ xs) (suc m) (suc j) before behind lt is =
        at xs m j (λ l d low. before (suc l) d (omega (arith, low))) (λ l d le inside. behind (suc l) d (omega (arith, le)) (omega (arith, inside)))
        (omega (arith, lt)) is

-- ---- more tables, and more keys

-- a table without keys has no places
pub reach-same : (n : ℕ) (tables : List (List KeyedCell)) → placed_from n (tables ++ [] ∷ []) ≡ placed_from n tables
reach-same n [] = refl
reach-same n (es ∷ tables) = ap (λ xs. placed n es ++ xs) (reach-same (suc n) tables)

pub reach-rise : (tables : List (List KeyedCell)) → AllRise tables → AllRise (tables ++ [] ∷ [])
reach-rise tables rise = All-push (IsStrictlySortedBy key_cmp) tables [] rise none-rises

-- the keys of a table that is there
pub items-of : (vs : List (Vec KeyedCell)) (t : ℕ) (v : Vec KeyedCell) → t < length vs → v ≡ get_or vs t v → v.items ≡ get_or (map vec_items vs) t []
items-of [] t v lt is = absurd (omega (arith, lt))
items-of (x ∷ vs) zero v lt is = ap vec_items is
items-of (x ∷ vs) (suc t) v lt is = items-of vs t v (omega (arith, lt)) is

-- one that is not there has none
pub no-items : (tables : List (List KeyedCell)) (t : ℕ) → length tables ≤ t → get_or tables t [] ≡ []
no-items [] t le = refl
no-items (x ∷ tables) zero le = absurd (omega (arith, le))
no-items (x ∷ tables) (suc t) le = no-items tables t (omega (arith, le))

pub table-rises : (tables : List (List KeyedCell)) (t : ℕ) → t < length tables → AllRise tables → IsStrictlySortedBy key_cmp (get_or tables t [])
table-rises tables t lt rise = All-get_or (IsStrictlySortedBy key_cmp) tables t [] lt rise

pub set-rises : (tables : List (List KeyedCell)) (t : ℕ) (es : List KeyedCell) → AllRise tables → IsStrictlySortedBy key_cmp es → AllRise (set tables t es)
set-rises [] t es all rise = all
set-rises (x ∷ tables) zero es all rise = All-cons (IsStrictlySortedBy key_cmp) es tables rise (All-tail (IsStrictlySortedBy key_cmp) x tables all)
set-rises (x ∷ tables) (suc t) es all rise =
    All-cons (IsStrictlySortedBy key_cmp) x (set tables t es) (All-head (IsStrictlySortedBy key_cmp) x tables all)
    (set-rises tables t es (All-tail (IsStrictlySortedBy key_cmp) x tables all) rise)

module _ (e : KeyedCell) (i : ℕ) where
  abbrev with_key : List KeyedCell → List KeyedCell
  with_key es = take i es ++ e ∷ drop i es

  here-was : (n : ℕ) (es : List KeyedCell) (rest : List Placed) → placed n es ++ rest ≡ placed n (take i es) ++ (placed n (drop i es) ++ rest)
  here-was n es rest =
      ap (λ xs. placed n xs ++ rest) (sym (take-append-drop i es)) ∙ ap (λ xs. xs ++ rest) (map-append (entry n) (take i es) (drop i es))
      ∙ append_assoc (placed n (take i es)) (placed n (drop i es)) rest

  here-is : (n : ℕ) (es : List KeyedCell) (rest : List Placed)
      → placed n (with_key es) ++ rest ≡ placed n (take i es) ++ entry n e ∷ (placed n (drop i es) ++ rest)
  here-is n es rest =
      ap (λ xs. xs ++ rest) (map-append (entry n) (take i es) (e ∷ drop i es))
      ∙ append_assoc (placed n (take i es)) (placed n (e ∷ drop i es)) rest

  -- a key more in a table is a place more
  more-from : (n : ℕ) (tables : List (List KeyedCell)) (t m : ℕ) → m ≡ n + t → t < length tables
      → HasMore (m, e.key) e.cell (placed_from n tables) (placed_from n (set tables t (with_key (get_or tables t []))))
  more-from n [] t m is lt = absurd (omega (arith, lt))
  more-from n (es ∷ tables) zero m is lt =
      let same : n ≡ m = omega (arith, is) in
      subst (λ x. HasMore (x, e.key) e.cell (placed_from n (es ∷ tables)) (placed_from n (with_key es ∷ tables))) same (record {
        front = placed n (take i es);
        back = placed n (drop i es) ++ placed_from (suc n) tables;
        was = here-was n es (placed_from (suc n) tables);
        is = here-is n es (placed_from (suc n) tables);
      })
  more-from n (es ∷ tables) (suc t) m is lt =
      let rest = more-from (suc n) tables t m (omega (arith, is)) (omega (arith, lt)) in
      record {
        front = placed n es ++ rest.front;
        back = rest.back;
        was = ap (λ xs. placed n es ++ xs) rest.was ∙ sym (append_assoc (placed n es) rest.front rest.back);
        is = ap (λ xs. placed n es ++ xs) rest.is ∙ sym (append_assoc (placed n es) rest.front (((m, e.key), e.cell) ∷ rest.back));
      }

  pub more-in : (tables : List (List KeyedCell)) (t : ℕ) → t < length tables
      → HasMore (t, e.key) e.cell (placed_from 0 tables) (placed_from 0 (set tables t (with_key (get_or tables t []))))
  more-in tables t lt = more-from 0 tables t t (omega arith) lt

-- ---- tables as vectors of vectors

set-items : (vs : List (Vec KeyedCell)) (t : ℕ) (v : Vec KeyedCell) → map vec_items (set vs t v) ≡ set (map vec_items vs) t v.items
set-items [] t v = refl
set-items (x ∷ vs) zero v = refl
set-items (x ∷ vs) (suc t) v = ap (λ ts. x.items ∷ ts) (set-items vs t v)

module _ (vs : List (Vec KeyedCell)) (t : ℕ) (lt : t < length vs) (old new : Vec KeyedCell) (is : old ≡ get_or vs t old) where
  own-keys : old.items ≡ get_or (map vec_items vs) t []
  own-keys = items-of vs t old lt is

  -- a table that stays leaves all as they are
  pub same-tables : new.items ≡ old.items → map vec_items (set vs t new) ≡ map vec_items vs
  same-tables same = set-items vs t new ∙ ap (set (map vec_items vs) t) (same ∙ own-keys) ∙ set-get_or (map vec_items vs) t []

  -- a key more in it
  pub rise-tables : (k : Value) (n i : ℕ) → AllRise (map vec_items vs) → IsGap old.items k i
      → new.items ≡ take i old.items ++ record { key = k; cell = n } ∷ drop i old.items → AllRise (map vec_items (set vs t new))
  rise-tables k n i rise there more =
      subst AllRise (sym (set-items vs t new)) (set-rises (map vec_items vs) t new.items rise
      (subst (IsStrictlySortedBy key_cmp) (sym more) (rise-more old.items k n i
      (subst (IsStrictlySortedBy key_cmp) (sym own-keys) (table-rises (map vec_items vs) t (omega (arith, lt, length-map vs vec_items)) rise)) there)))

  pub more-tables : (k : Value) (n i : ℕ) → new.items ≡ take i old.items ++ record { key = k; cell = n } ∷ drop i old.items
      → HasMore (t, k) n (placed_from 0 (map vec_items vs)) (placed_from 0 (map vec_items (set vs t new)))
  more-tables k n i more =
      let e : KeyedCell = record { key = k; cell = n } in
      subst (λ ts. HasMore (t, k) n (placed_from 0 (map vec_items vs)) (placed_from 0 ts))
      (sym (set-items vs t new ∙ ap (set (map vec_items vs) t) (more ∙ ap (λ es. take i es ++ e ∷ drop i es) own-keys)))
      (more-in e i (map vec_items vs) t (omega (arith, lt, length-map vs vec_items)))

  never-there : (es : List Placed) (p : RowPlace) (n : ℕ) → IsAbsent p es → IsPlaceOf es p n → ⊥
  never-there [] p n absent never = never
  never-there (e ∷ es) p n absent (inl here) = absent.0 (sym here.0)
  never-there (e ∷ es) p n absent (inr later) = never-there es p n absent.1 later

  -- a key that is found is not absent
  pub found-there : (k : Value) (i : ℕ) → IsAbsent (t, k) (placed_from 0 (map vec_items vs)) → IsIndexOf old.items k i → ⊥
  found-there k i absent there = at (slice_get old.items i) refl there
    where
      at : (o : Option KeyedCell) → slice_get old.items i ≡ o → option_map (λ (e : KeyedCell). e.key) o ≡ Some k → ⊥
      at None e h = cc
      at (Some e) f h =
          let same : e.key ≡ k = grind (arith, h) in
          never-there (placed_from 0 (map vec_items vs)) (t, k) e.cell absent
          (subst (λ x. IsPlaceOf (placed_from 0 (map vec_items vs)) (t, x) e.cell) same
          (place-there (map vec_items vs) t i e (subst (λ es. slice_get es i ≡ Some e) own-keys f)))

-- ---- one place more

free-before : (n : ℕ) (es : List Placed) → All (IsBefore n) es → IsFree n es
free-before n [] all = tt
free-before n (e ∷ es) all =
    let lt = All-head (IsBefore n) e es all in ((λ same. omega (arith, same, lt)), free-before n es (All-tail (IsBefore n) e es all))

module _ (p : RowPlace) (n : ℕ) where
  absent-more : (q : RowPlace) (front back : List Placed) → q ≢ p → IsAbsent q (front ++ back) → IsAbsent q (front ++ (p, n) ∷ back)
  absent-more q [] back ne absent = (ne, absent)
  absent-more q (e ∷ front) back ne absent = (absent.0, absent-more q front back ne absent.1)

  free-more : (m : ℕ) (front back : List Placed) → m ≢ n → IsFree m (front ++ back) → IsFree m (front ++ (p, n) ∷ back)
  free-more m [] back ne free = (ne, free)
  free-more m (e ∷ front) back ne free = (free.0, free-more m front back ne free.1)

  pub absent-behind : (front back : List Placed) → IsAbsent p (front ++ back) → IsAbsent p back
  absent-behind [] back absent = absent
  absent-behind (e ∷ front) back absent = absent-behind front back absent.1

  apart-more : (front back : List Placed) → AreApart (front ++ back) → IsAbsent p (front ++ back) → IsFree n (front ++ back)
      → AreApart (front ++ (p, n) ∷ back)
  apart-more [] back apart absent free = (absent, free, apart)
  apart-more (e ∷ front) back apart absent free = (
    absent-more e.0 front back (λ f. absent.0 (sym f)) apart.0,
    free-more e.1 front back (λ f. free.0 (sym f)) apart.1,
    apart-more front back apart.2 absent.1 free.1,
  )

  before-more : (front back : List Placed) → All (IsBefore n) (front ++ back) → All (IsBefore (n + 1)) (front ++ (p, n) ∷ back)
  before-more [] back all =
      All-cons (IsBefore (n + 1)) (p, n) back (omega arith) (All-weaker (IsBefore n) (IsBefore (n + 1)) (λ e lt. omega (arith, lt)) back all)
  before-more (e ∷ front) back all =
      let lt = All-head (IsBefore n) e (front ++ back) all in
      All-cons (IsBefore (n + 1)) e (front ++ (p, n) ∷ back) (omega (arith, lt)) (before-more front back (All-tail (IsBefore n) e (front ++ back) all))

  last-place : (front back : List Placed) → IsPlaceOf (front ++ (p, n) ∷ back) p n
  last-place [] back = inl (refl, refl)
  last-place (e ∷ front) back = inr (last-place front back)

-- what is new is there
pub more-known : (p : RowPlace) (n : ℕ) (old new : List Placed) → HasMore p n old new → IsPlaceOf new p n
more-known p n old new more = subst (λ es. IsPlaceOf es p n) (sym more.is) (last-place p n more.front more.back)

pub grown-apart : (p : RowPlace) (old new : Index) → AreApart old.entries → All (IsBefore old.next) old.entries → IsMore p old new
    → AreApart new.entries × All (IsBefore new.next) new.entries
grown-apart p old new apart before more =
    let m = more.more in (
      subst AreApart (sym m.is) (apart-more p old.next m.front m.back (subst AreApart m.was apart) (subst (IsAbsent p) m.was more.absent)
          (subst (IsFree old.next) m.was (free-before old.next old.entries before))),
      subst (λ es. All (IsBefore new.next) es) (sym m.is) (subst (λ n. All (IsBefore n) (m.front ++ (p, old.next) ∷ m.back)) (sym more.next)
          (before-more p old.next m.front m.back (subst (λ es. All (IsBefore old.next) es) m.was before))),
    )

pub place-before : (n : ℕ) (es : List Placed) (p : RowPlace) (m : ℕ) → All (IsBefore n) es → IsPlaceOf es p m → m < n
place-before n [] p m all never = absurd never
place-before n (e ∷ es) p m all (inl here) = subst (λ x. x < n) here.1 (All-head (IsBefore n) e es all)
place-before n (e ∷ es) p m all (inr later) = place-before n es p m (All-tail (IsBefore n) e es all) later
