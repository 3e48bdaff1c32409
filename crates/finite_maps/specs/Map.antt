-- A finite map whose entries stand in the order of their keys, so that maps with the same look-ups are equal.
-- Unlike std's FinMap each of its words may be unfolded, so that whole runs compute.
use Rattle.std.specs.Prelude.{◌≡◌, refl, Bool, true, false, cond, not, T, List, [], ◌∷◌, Option, Some, None}
use Rattle.std.proofs.Common.{sym, ap, ◌∙◌}
use Rattle.std.specs.declared.cmp.Ordering.{Ordering}
use Rattle.std.specs.declared.cmp.Ordering.TheVariants.{Less, Equal, Greater}
use Rattle.std.specs.Ordering.{eq_by_cmp, is_eq}
use Rattle.std.specs.Cmp.{IsTotalOrder, eq_by_cmp_equiv}
use Rattle.std.specs.FinMap.Entries.{find, put, where_key, is_sorted, is_sorted-put, is_sorted-where_key, find-put, find-where_key, same_entries}
use Rattle.finite_maps.specs.Entries.{without}
use mathlib.Core.HLevel.{Σ_prop_path}
use lib.Dec.{T_prop}

-- an order of keys in which only equal keys tie
pub record Order (K : Type 0) : Type 0 where
  pub cmp : K → K → Ordering
  pub total : IsTotalOrder cmp
  pub same : (x y : K) → cmp x y ≡ Equal → x ≡ y

pub record Map {K : Type 0} (o : Order K) (X : Type 0) : Type 0 where
  pub list : List (K × X)
  pub sorted : T (is_sorted o.cmp list)

-- two keys are one
abbrev pub same_key : {K : Type 0} → Order K → K → K → Bool
same_key o x y = eq_by_cmp o.cmp x y

pub same_key-true : {K : Type 0} (o : Order K) (x y : K) → same_key o x y ≡ true → x ≡ y
same_key-true o x y e = o.same x y (equal (o.cmp x y) e)
  where
    equal : (r : Ordering) → is_eq r ≡ true → r ≡ Equal
    equal Less h = cc
    equal Equal h = refl
    equal Greater h = cc

pub same_key-refl : {K : Type 0} (o : Order K) (x : K) → same_key o x x ≡ true
same_key-refl o x = (eq_by_cmp_equiv o.total).refl x

cond-not : {A : Type 0} (b : Bool) (x y : A) → cond (not b) x y ≡ cond b y x
cond-not true x y = refl
cond-not false x y = refl

module _ {K X : Type 0} {o : Order K} where
  pub same_list : (m n : Map o X) → m.list ≡ n.list → m ≡ n
  same_list m n e =
      let pairs : ◌≡◌ {A = (es : List (K × X)) × T (is_sorted o.cmp es)} (m.list, m.sorted) (n.list, n.sorted) = Σ_prop_path (λ es. T_prop _) e in
      λ i. record { list = (pairs i).0; sorted = (pairs i).1 }

  -- the map with no key
  unfoldable pub empty : Map o X
  empty = record { list = []; sorted = tt }

  -- the value at a key
  unfoldable pub get : Map o X → K → Option X
  get m q = find o.cmp q m.list

  -- the map with a value at a key
  unfoldable pub insert : Map o X → K → X → Map o X
  insert m k v = record { list = put o.cmp k v m.list; sorted = is_sorted-put o.cmp o.total k v m.list m.sorted }

  -- the entries whose keys pass a test
  unfoldable pub keep : (K → Bool) → Map o X → Map o X
  keep p m = record { list = where_key o.cmp p m.list; sorted = is_sorted-where_key o.cmp p m.list m.sorted }

  -- the map with nothing at a key
  unfoldable pub remove : Map o X → K → Map o X
  remove m k = keep (λ x. not (same_key o k x)) m

  -- the entries in the order of their keys
  unfoldable pub entries : Map o X → List (K × X)
  entries m = m.list

  pub get-insert : (m : Map o X) (k : K) (v : X) (q : K) → get (insert m k v) q ≡ cond (same_key o q k) (Some v) (get m q)
  unfolding get insert
  get-insert m k v q = find-put o.cmp o.total q k v m.list

  pub get-keep : (p : K → Bool) (m : Map o X) (q : K) → get (keep p m) q ≡ cond (p q) (get m q) None
  unfolding get keep
  get-keep p m q = find-where_key o.cmp p q (λ x e. ap p (sym (o.same q x e))) m.list

  pub get-remove : (m : Map o X) (k q : K) → get (remove m k) q ≡ cond (same_key o q k) None (get m q)
  unfolding remove
  get-remove m k q = get-keep (λ x. not (same_key o k x)) m q ∙ cond-not (same_key o k q) _ _
      ∙ ap (λ b. cond b None (get m q)) ((eq_by_cmp_equiv o.total).symm k q)

  pub same_map : (m n : Map o X) → ((q : K) → get m q ≡ get n q) → m ≡ n
  unfolding get
  same_map m n h = same_list m n (same_entries o.cmp o.total o.same m.list n.list m.sorted n.sorted h)

pub get-empty : {K : Type 0} (o : Order K) (X : Type 0) (q : K) → get (empty {X = X} {o = o}) q ≡ None
unfolding get empty
get-empty o X q = refl

-- the map that has what a list of entries has, as a `VMap` is seen
unfoldable pub of_entries : {K X : Type 0} (o : Order K) → List (K × X) → Map o X
of_entries o [] = empty
of_entries o (e ∷ es) = insert (of_entries o es) e.0 e.1

module _ {K X : Type 0} (o : Order K) where
  -- a look-up in a `VMap` is one in its map
  pub get-of_entries : (es : List (K × X)) (q : K) → get (of_entries o es) q ≡ find o.cmp q es
  unfolding of_entries
  get-of_entries [] q = get-empty o X q
  get-of_entries (e ∷ es) q = get-insert (of_entries o es) e.0 e.1 q ∙ ap (cond (same_key o q e.0) (Some e.1)) (get-of_entries es q)

  -- a `put` to a `VMap` is an insert to its map
  pub of_entries-put : (k : K) (v : X) (es : List (K × X)) → of_entries o (put o.cmp k v es) ≡ insert (of_entries o es) k v
  of_entries-put k v es = same_map _ _ (λ q. get-of_entries (put o.cmp k v es) q ∙ find-put o.cmp o.total q k v es
      ∙ ap (cond (same_key o q k) (Some v)) (sym (get-of_entries es q)) ∙ sym (get-insert (of_entries o es) k v q))

  -- a `without` of a `VMap` is a removal from its map
  pub of_entries-without : (k : K) (es : List (K × X)) → of_entries o (without o.cmp k es) ≡ remove (of_entries o es) k
  of_entries-without k es = same_map _ _ (λ q. get-of_entries (without o.cmp k es) q
      ∙ find-where_key o.cmp (λ x. not (same_key o k x)) q (λ x e. ap (λ y. not (same_key o k y)) (sym (o.same q x e))) es
      ∙ cond-not (same_key o k q) _ _ ∙ ap (λ b. cond b None (find o.cmp q es)) ((eq_by_cmp_equiv o.total).symm k q)
      ∙ ap (cond (same_key o q k) None) (sym (get-of_entries es q)) ∙ sym (get-remove (of_entries o es) k q))

  -- a `VMap` has its map's entries in order
  pub entries-of_entries : (es : List (K × X)) → T (is_sorted o.cmp es) → entries (of_entries o es) ≡ es
  unfolding entries get
  entries-of_entries es s =
      ap (λ (m : Map o X). m.list) (same_map (of_entries o es) (record { list = es; sorted = s }) (get-of_entries es))
