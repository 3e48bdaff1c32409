-- The rows that are shown of a table are those that lie there.
use Rattle.std.proofs.Common.{◌≡◌, ◌≢◌, refl, sym, ap, ◌∙◌, subst, ℕ, zero, suc, ◌+◌, ◌-◌}
use Rattle.std.proofs.Common.{◌<◌, ◌≤◌, Bool, true, false, cond, ◌&&◌, ◌⊎◌, inl, inr, ⊎_elim, arith}
use Rattle.std.proofs.Common.{List, [], ◌∷◌, length, drop, get_or, Option, Some, None, Less}
use Rattle.std.specs.Prelude.{T, slice_get}
use Rattle.std.specs.Ordering.{is_eq, is_lt}
use Rattle.std.proofs.lemmas.Bool.{cases_lt}
use Rattle.std.specs.List.{AllByRecursion, Contains}
use Rattle.std.proofs.lemmas.List.{length-map}
use Rattle.std.specs.List.Sorted.{IsStrictlySortedBy}
use Rattle.std.specs.FinMap.Entries.{below_all, find, is_sorted}
use Rattle.finite_maps.specs.Map.{same_key, same_key-refl, same_key-true}
use Rattle.lock_modes.specs.Rows.{Tuple}
use Rattle.lock_modes.specs.Value.{value_cmp, value_order}
use Rattle.lock_modes.specs.declared.value.Value.{Value}
use Rattle.lock_modes.specs.declared.value.Value.TheVariants.{Text}
use Rattle.marked_rows.specs.Cells.{blank, row_with}
use Rattle.marked_rows.specs.Places.{keys_of}
use Rattle.marked_rows.specs.Shown.{AreUnseen, IsNext, numbers_of, shown, shown_of, with_row}
use Rattle.marked_rows.specs.declared.cell.Cell.{Cell}
use Rattle.marked_rows.specs.declared.cell.Sight.{Sight}
use Rattle.marked_rows.specs.declared.places.KeyedCell.{KeyedCell}
use Rattle.marked_rows.proofs.StepLemmas.{key-other}

abbrev same_value : Value → Value → Bool
same_value k j = same_key value_order k j

lower-other : (k j : Value) → value_cmp j k ≡ Less → k ≢ j
lower-other k j less e = never (subst (λ x. value_cmp j x ≡ Less) e less)
  where
    never : value_cmp j j ≡ Less → ⊥
    never low =
        let equal : same_value j j ≡ true = same_key-refl value_order j in
        let is : is_eq (value_cmp j j) ≡ true = equal in
        let not : is_eq (value_cmp j j) ≡ false = ap is_eq low in
        cc

-- ---- one row more

both : (a b : Bool) → T a → T b → T (a && b)
both true b p q = q
both false b p q = p

find-row : (q k : Value) (row : Option Tuple) (rest : List (Value × Tuple)) → same_value q k ≡ false
    → find value_cmp q (with_row k row rest) ≡ find value_cmp q rest
find-row q k None rest other = refl
find-row q k (Some row) rest other = ap (λ b. cond b (Some row) (find value_cmp q rest)) other

find-here : (k : Value) (row : Option Tuple) (rest : List (Value × Tuple)) → find value_cmp k rest ≡ None → find value_cmp k (with_row k row rest) ≡ row
find-here k None rest none = none
find-here k (Some row) rest none = ap (λ b. cond b (Some row) (find value_cmp k rest)) (same_key-refl value_order k)

below-row : (x k : Value) (row : Option Tuple) (rest : List (Value × Tuple)) → value_cmp x k ≡ Less → T (below_all value_cmp x rest)
    → T (below_all value_cmp x (with_row k row rest))
below-row x k None rest less below = below
below-row x k (Some row) rest less below = both (is_lt (value_cmp x k)) (below_all value_cmp x rest) (subst (λ o. T (is_lt o)) (sym less) tt) below

sorted-row : (k : Value) (row : Option Tuple) (rest : List (Value × Tuple)) → T (below_all value_cmp k rest) → T (is_sorted value_cmp rest)
    → T (is_sorted value_cmp (with_row k row rest))
sorted-row k None rest below rise = rise
sorted-row k (Some row) rest below rise = both (below_all value_cmp k rest) (is_sorted value_cmp rest) below rise

-- ---- all rows

module _ (rows : List Tuple) where
  below-shown : (x : Value) (ks : List Value) (numbers : List (Option ℕ)) → AllByRecursion (λ y. value_cmp x y ≡ Less) ks
      → T (below_all value_cmp x (shown rows ks numbers))
  below-shown x [] numbers all = tt
  below-shown x (k ∷ ks) [] all = tt
  below-shown x (k ∷ ks) (o ∷ numbers) all = below-row x k (row_with rows o) (shown rows ks numbers) all.0 (below-shown x ks numbers all.1)

  -- the keys of what is shown rise
  pub sorted-shown : (ks : List Value) (numbers : List (Option ℕ)) → IsStrictlySortedBy value_cmp ks → T (is_sorted value_cmp (shown rows ks numbers))
  unfolding IsStrictlySortedBy
  sorted-shown [] numbers rise = tt
  sorted-shown (k ∷ ks) [] rise = tt
  sorted-shown (k ∷ ks) (o ∷ numbers) rise =
      sorted-row k (row_with rows o) (shown rows ks numbers) (below-shown k ks numbers rise.0) (sorted-shown ks numbers rise.1)

  find-lower : (x : Value) (ks : List Value) (numbers : List (Option ℕ)) → AllByRecursion (λ y. value_cmp x y ≡ Less) ks
      → find value_cmp x (shown rows ks numbers) ≡ None
  find-lower x [] numbers all = refl
  find-lower x (k ∷ ks) [] all = refl
  find-lower x (k ∷ ks) (o ∷ numbers) all =
      find-row x k (row_with rows o) (shown rows ks numbers) (key-other value_order x k (λ e. lower-other k x all.0 (sym e)))
      ∙ find-lower x ks numbers all.1

  -- at a key that is not there nothing is shown
  find-absent : (x : Value) (ks : List Value) (numbers : List (Option ℕ)) → (Contains ks x → ⊥) → find value_cmp x (shown rows ks numbers) ≡ None
  find-absent x [] numbers never = refl
  find-absent x (k ∷ ks) [] never = refl
  find-absent x (k ∷ ks) (o ∷ numbers) never =
      find-row x k (row_with rows o) (shown rows ks numbers) (key-other value_order x k (λ e. never (0, omega arith, sym e)))
      ∙ find-absent x ks numbers (λ h. never (suc h.0, (let lt = h.1 in omega (arith, lt)), h.2))

  -- at a key that is there the row of its number is shown
  find-there : (x : Value) (ks : List Value) (numbers : List (Option ℕ)) (i : ℕ) → IsStrictlySortedBy value_cmp ks → length numbers ≡ length ks
      → slice_get ks i ≡ Some x
      → find value_cmp x (shown rows ks numbers) ≡ row_with rows (get_or numbers i None)
  unfolding IsStrictlySortedBy
  find-there x [] numbers i rise same at = cc
  find-there x (k ∷ ks) [] i rise same at = absurd (omega (arith, same))
  find-there x (k ∷ ks) (o ∷ numbers) zero rise same at =
      let here : k ≡ x = grind (arith, at) in
      subst (λ y. find value_cmp y (shown rows (k ∷ ks) (o ∷ numbers)) ≡ row_with rows o) here
      (find-here k (row_with rows o) (shown rows ks numbers) (find-lower k ks numbers rise.0))
  find-there x (k ∷ ks) (o ∷ numbers) (suc i) rise same at =
      find-row x k (row_with rows o) (shown rows ks numbers) (key-other value_order x k (lower-other x k (lower k ks i rise.0 at)))
      ∙ find-there x ks numbers i rise.1 (omega (arith, same)) at
    where
      lower : (y : Value) (zs : List Value) (j : ℕ) → AllByRecursion (λ z. value_cmp y z ≡ Less) zs → slice_get zs j ≡ Some x → value_cmp y x ≡ Less
      lower y [] j all at = cc
      lower y (z ∷ zs) zero all at = let same : z ≡ x = grind (arith, at) in subst (λ w. value_cmp y w ≡ Less) same all.0
      lower y (z ∷ zs) (suc j) all at = lower y zs j all.1 at

  -- a key is there, or it is not
  where-is : (x : Value) (ks : List Value) → ((i : ℕ) × (slice_get ks i ≡ Some x)) ⊎ (Contains ks x → ⊥)
  where-is x [] = inr (λ h. (let lt = h.1 in omega (arith, lt)))
  where-is x (k ∷ ks) = at (same_value k x) refl (where-is x ks)
    where
      later : k ≢ x → (Contains ks x → ⊥) → (i : ℕ) → i < suc (length ks) → get_or (k ∷ ks) i x ≡ x → ⊥
      later ne never zero lt e = ne e
      later ne never (suc i) lt e = never (i, omega (arith, lt), e)

      at : (b : Bool) → same_value k x ≡ b → ((i : ℕ) × (slice_get ks i ≡ Some x)) ⊎ (Contains ks x → ⊥)
          → ((i : ℕ) × (slice_get (k ∷ ks) i ≡ Some x)) ⊎ (Contains (k ∷ ks) x → ⊥)
      at true is rest = inl (0, ap Some (same_key-true value_order k x is))
      at false is (inl there) = inl (suc there.0, there.1)
      at false is (inr never) =
          let ne : k ≢ x = (λ e. (let same : same_value k x ≡ true = subst (λ y. same_value k y ≡ true) e (same_key-refl value_order k) in
          let contra : false ≡ true = sym is ∙ same in
          cc)) in
          inr (λ h. later ne never h.0 h.1 h.2)

  -- what is shown at each key is the row there
  pub find-shown : (ks : List Value) (numbers : List (Option ℕ)) (at : Value → Option Tuple) → IsStrictlySortedBy value_cmp ks → length numbers ≡ length ks
      → ((x : Value) (i : ℕ) → slice_get ks i ≡ Some x → at x ≡ row_with rows (get_or numbers i None)) → ((x : Value) → (Contains ks x → ⊥) → at x ≡ None)
      → (x : Value) → find value_cmp x (shown rows ks numbers) ≡ at x
  find-shown ks numbers at rise same there absent x =
      ⊎_elim (λ (h : (i : ℕ) × (slice_get ks i ≡ Some x)). find-there x ks numbers h.0 rise same h.1 ∙ sym (there x h.0 h.1))
      (λ never. find-absent x ks numbers never ∙ sym (absent x never)) (where-is x ks)

  -- ---- the next row

  -- what is shown from a cell on
  shown-step : (ks : List Value) (numbers : List (Option ℕ)) (n : ℕ) (d : Value) → n < length ks → length numbers ≡ length ks
      → shown rows (drop n ks) (drop n numbers)
      ≡ with_row (get_or ks n d) (row_with rows (get_or numbers n None)) (shown rows (drop (n + 1) ks) (drop (n + 1) numbers))
  shown-step [] numbers n d lt same = absurd (omega (arith, lt))
  shown-step (k ∷ ks) [] n d lt same = absurd (omega (arith, same))
  shown-step (k ∷ ks) (o ∷ numbers) zero d lt same = refl
  shown-step (k ∷ ks) (o ∷ numbers) (suc n) d lt same =
      let next : suc (n + 1) ≡ suc n + 1 = omega arith in
      shown-step ks numbers n d (omega (arith, lt)) (omega (arith, same))
      ∙ ap (λ m. with_row (get_or ks n d) (row_with rows (get_or numbers n None)) (shown rows (drop m (k ∷ ks)) (drop m (o ∷ numbers)))) next

  shown-end : (ks : List Value) (numbers : List (Option ℕ)) (n : ℕ) → length ks ≤ n → shown rows (drop n ks) (drop n numbers) ≡ []
  shown-end ks numbers n le = ap (λ xs. shown rows xs (drop n numbers)) (drop-end ks n le)
    where
      drop-end : (xs : List Value) (m : ℕ) → length xs ≤ m → drop m xs ≡ []
      drop-end [] zero le = refl
      drop-end [] (suc m) le = refl
      drop-end (x ∷ xs) zero le = absurd (omega (arith, le))
      drop-end (x ∷ xs) (suc m) le = drop-end xs m (omega (arith, le))

  -- cells of which nothing is shown are passed
  shown-skip : (ks : List Value) (numbers : List (Option ℕ)) (d : Value) (count n m : ℕ) → m ≡ n + count → m ≤ length ks → length numbers ≡ length ks
      → AreUnseen numbers n m
      → shown rows (drop n ks) (drop n numbers) ≡ shown rows (drop m ks) (drop m numbers)
  shown-skip ks numbers d zero n m is le same unseen = let e : n ≡ m = omega (arith, is) in ap (λ k. shown rows (drop k ks) (drop k numbers)) e
  shown-skip ks numbers d (suc count) n m is le same unseen =
      shown-step ks numbers n d (omega (arith, is, le)) same
      ∙ ap (λ o. with_row (get_or ks n d) (row_with rows o) (shown rows (drop (n + 1) ks) (drop (n + 1) numbers))) (unseen n (omega arith) (omega (arith, is)))
      ∙ shown-skip ks numbers d count (n + 1) m (omega (arith, is)) le same (λ place from to. unseen place (omega (arith, from)) to)

  -- nothing is left where nothing more is seen
  pub shown-none : (ks : List Value) (numbers : List (Option ℕ)) (n : ℕ) → length numbers ≡ length ks → AreUnseen numbers n (length numbers)
      → shown rows (drop n ks) (drop n numbers) ≡ []
  shown-none ks numbers n same unseen = at (cases_lt n (length ks))
    where
      at : (n < length ks) ⊎ (length ks ≤ n) → shown rows (drop n ks) (drop n numbers) ≡ []
      at (inl lt) =
          shown-skip ks numbers (Text []) (length ks - n) n (length ks) (omega (arith, lt)) (omega arith) same
          (λ place from to. unseen place from (omega (arith, to, same)))
          ∙ shown-end ks numbers (length ks) (omega arith)
      at (inr past) = shown-end ks numbers n past

  -- the next cell in which a row is seen is shown first
  pub shown-next : (ks : List Value) (numbers : List (Option ℕ)) (n : ℕ) (next : ℕ × ℕ) (d : Value) (row : Tuple) → length numbers ≡ length ks
      → IsNext numbers n next
      → slice_get rows next.1 ≡ Some row
      → shown rows (drop n ks) (drop n numbers) ≡ (get_or ks next.0 d, row) ∷ shown rows (drop (next.0 + 1) ks) (drop (next.0 + 1) numbers)
  shown-next ks numbers n next d row same is there =
      let m = next.0 in
      let le = is.behind in
      let lt : m < length ks = (let inside = is.inside in omega (arith, inside, same)) in
      shown-skip ks numbers d (m - n) n m (omega (arith, le)) (omega (arith, lt)) same is.between
      ∙ shown-step ks numbers m d lt same
      ∙ ap (λ o. with_row (get_or ks m d) (row_with rows o) (shown rows (drop (m + 1) ks) (drop (m + 1) numbers))) is.number
      ∙ ap (λ o. with_row (get_or ks m d) o (shown rows (drop (m + 1) ks) (drop (m + 1) numbers))) there

-- ---- keys with their cells

-- each key has a number, or none
pub same-count : (sight : Sight) (cells : List Cell) (es : List KeyedCell) → length (numbers_of sight cells es) ≡ length (keys_of es)
same-count sight cells es =
    length-map es (λ (e : KeyedCell). shown_of sight (get_or cells e.cell blank)) ∙ sym (length-map es (λ (e : KeyedCell). e.key))

pub count-keys : (es : List KeyedCell) → length (keys_of es) ≡ length es
count-keys es = length-map es (λ (e : KeyedCell). e.key)

-- the number and the key at an index
pub number-key : (sight : Sight) (cells : List Cell) (es : List KeyedCell) (i : ℕ) (d : KeyedCell) → i < length es
    → get_or (numbers_of sight cells es) i None ≡ shown_of sight (get_or cells (get_or es i d).cell blank)
number-key sight cells [] i d lt = absurd (omega (arith, lt))
number-key sight cells (x ∷ es) zero d lt = refl
number-key sight cells (x ∷ es) (suc i) d lt = number-key sight cells es i d (omega (arith, lt))

pub key-at : (es : List KeyedCell) (i : ℕ) (d : KeyedCell) (k : Value) → i < length es → get_or (keys_of es) i k ≡ (get_or es i d).key
key-at [] i d k lt = absurd (omega (arith, lt))
key-at (x ∷ es) zero d k lt = refl
key-at (x ∷ es) (suc i) d k lt = key-at es i d k (omega (arith, lt))

-- one cell more of which nothing is shown
pub unseen-more : (ns : List (Option ℕ)) (from n : ℕ) → AreUnseen ns from n → get_or ns n None ≡ None → AreUnseen ns from (n + 1)
unseen-more ns from n unseen none place low lt = at (cases_lt place n)
  where
    at : (place < n) ⊎ (n ≤ place) → get_or ns place None ≡ None
    at (inl before) = unseen place low before
    at (inr past) = let same : n ≡ place = omega (arith, lt, past) in subst (λ i. get_or ns i None ≡ None) same none
