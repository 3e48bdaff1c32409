-- A list that is sorted and keeps ties is the one that is sorted by putting in one entry after another.
use Rattle.std.proofs.Common.{◌≡◌, refl, sym, ap, ◌∙◌, subst, ℕ, suc, ◌<◌, ◌≤◌, Bool, true, false, cond, not, ◌&&◌, List, [], ◌∷◌, length, get_or, pos, arith}
use Rattle.std.proofs.Common.{Ordering, Less, Equal, Greater, is_gt}
use Rattle.std.specs.Prelude.{⊤}
use Rattle.std.specs.Ordering.{is_lt, ordering_reverse}
use Rattle.std.specs.Cmp.{IsTotalOrder, IsStrictWeakOrder, on_total, then_total}
use Rattle.std.specs.List.{filter}
use Rattle.std.specs.List.Sorted.{IsSortedBy, IsStableBy, ties}
use Rattle.std.proofs.lemmas.List.Sorted.{ranks_by, sorted_far}
use Rattle.std.proofs.lemmas.Bool.{and_parts, not-true}
use Rattle.lock_modes.specs.RowPlace.{RowPlace}
use Rattle.lock_modes.specs.Rows.{Tuple}
use Rattle.lock_modes.specs.Value.{value_cmp, value_total}
use Rattle.lock_modes.specs.declared.value.Value.{Value}
use Rattle.lock_modes.specs.declared.value.Value.TheVariants.{Int}
use Rattle.bound_statements.specs.declared.statement.Order.{Order}
use Rattle.bound_statements.specs.declared.statement.Order.TheVariants.{Rises as Up, Falls as Down}
use Rattle.bound_statements.specs.declared.statement.SortKey.{SortKey}
use Rattle.statement_evaluation.specs.Effect.{in_order, sort_cmp, put_in, sorted_by}

-- an entry that passes goes before others, in either order where not both pass
swapped : {X : Type 0} (s t : Bool) (x e : X) (f : List X) → (s ≡ true → t ≡ true → ⊥) → cond s (x ∷ cond t (e ∷ f) f) (cond t (e ∷ f) f)
    ≡ cond t (e ∷ cond s (x ∷ f) f) (cond s (x ∷ f) f)
swapped true true x e f clash = absurd (clash refl refl)
swapped true false x e f clash = refl
swapped false true x e f clash = refl
swapped false false x e f clash = refl

tails : {X : Type 0} (t : Bool) (a : X) (p q : List X) → cond t (a ∷ p) p ≡ cond t (a ∷ q) q → p ≡ q
tails true a p q e = cc
tails false a p q e = e

module _ {X : Type 0} (lt : X → X → Bool) (o : IsStrictWeakOrder lt) where
  -- no element is less than x
  abbrev pub NoneBelow : X → List X → Type 0
  NoneBelow x [] = ⊤
  NoneBelow x (y ∷ ys) = (lt y x ≡ false) × NoneBelow x ys

  -- no element is less than one before it
  abbrev pub Climbs : List X → Type 0
  Climbs [] = ⊤
  Climbs (x ∷ xs) = NoneBelow x xs × Climbs xs

  self : (x : X) → lt x x ≡ false
  self x = at (lt x x) refl
    where
      at : (b : Bool) → lt x x ≡ b → lt x x ≡ false
      at true is = o.one_way x x is
      at false is = is

  tied : (x y : X) → lt x y ≡ false → lt y x ≡ false → ties lt x y ≡ true
  tied x y p q = λ i. not (p i) && not (q i)

  untied : (x y : X) → ties lt x y ≡ true → (lt x y ≡ false) × (lt y x ≡ false)
  untied x y e = let b = and_parts (not (lt x y)) _ e in (not-true _ b.0, not-true _ b.1)

  -- what is less than the first ties with none
  nothing-ties : (a b : X) (ys : List X) → lt b a ≡ true → NoneBelow a ys → filter (ties lt b) ys ≡ []
  nothing-ties a b [] low h = refl
  nothing-ties a b (c ∷ ys) low h = at (ties lt b c) refl (nothing-ties a b ys low h.1)
    where
      at : (t : Bool) → ties lt b c ≡ t → filter (ties lt b) ys ≡ [] → cond (ties lt b c) (c ∷ filter (ties lt b) ys) (filter (ties lt b) ys) ≡ []
      at true is rest = absurd (let e : true ≡ false = sym low ∙ o.chain b c a (untied b c is).0 h.0 in cc)
      at false is rest = ap (λ t. cond t (c ∷ filter (ties lt b) ys) (filter (ties lt b) ys)) is ∙ rest

  -- so an element that is among them is not less than the first
  not-below : (a b : X) (ys zs : List X) → NoneBelow a ys → filter (ties lt b) (a ∷ ys) ≡ filter (ties lt b) (b ∷ zs) → lt b a ≡ false
  not-below a b ys zs h e = at (lt b a) refl
    where
      at : (t : Bool) → lt b a ≡ t → lt b a ≡ false
      at true low =
          absurd (let none : [] ≡ b ∷ filter (ties lt b) zs =
          sym (nothing-ties a b (a ∷ ys) low (self a, h)) ∙ e
          ∙ ap (λ t. cond t (b ∷ filter (ties lt b) zs) (filter (ties lt b) zs)) (tied b b (self b) (self b)) in cc)
      at false is = is

  -- two lists that climb and have the same ties are one
  pub same-climb : (ys zs : List X) → Climbs ys → Climbs zs → ((x : X) → filter (ties lt x) ys ≡ filter (ties lt x) zs) → ys ≡ zs
  same-climb [] [] p q h = refl
  same-climb [] (b ∷ zs) p q h =
      absurd (let none : [] ≡ b ∷ filter (ties lt b) zs = h b
      ∙ ap (λ t. cond t (b ∷ filter (ties lt b) zs) (filter (ties lt b) zs)) (tied b b (self b) (self b)) in cc)
  same-climb (a ∷ ys) [] p q h =
      absurd (let none : [] ≡ a ∷ filter (ties lt a) ys = sym (h a)
      ∙ ap (λ t. cond t (a ∷ filter (ties lt a) ys) (filter (ties lt a) ys)) (tied a a (self a) (self a)) in cc)
  same-climb (a ∷ ys) (b ∷ zs) p q h =
      let ba : lt b a ≡ false = not-below a b ys zs p.0 (h b) in
      let ab : lt a b ≡ false = not-below b a zs ys q.0 (sym (h a)) in
      let firsts : a ∷ filter (ties lt a) ys ≡ b ∷ filter (ties lt a) zs =
      sym (ap (λ t. cond t (a ∷ filter (ties lt a) ys) (filter (ties lt a) ys)) (tied a a (self a) (self a)))
      ∙ h a ∙ ap (λ t. cond t (b ∷ filter (ties lt a) zs) (filter (ties lt a) zs)) (tied a b ab ba) in
      let same : a ≡ b = cc in
      let rest : (x : X) → filter (ties lt x) ys ≡ filter (ties lt x) zs =
      λ x. tails (ties lt x a) a (filter (ties lt x) ys) (filter (ties lt x) zs)
      (h x ∙ sym (ap (λ c. cond (ties lt x c) (c ∷ filter (ties lt x) zs) (filter (ties lt x) zs)) same)) in
      λ i. same i ∷ same-climb ys zs p.1 q.1 rest i

  none-at : (x : X) (ys : List X) → ((j : ℕ) → j < length ys → lt (get_or ys j x) x ≡ false) → NoneBelow x ys
  none-at x [] h = tt
  none-at x (y ∷ ys) h = (h 0 (omega arith), none-at x ys (λ j p. h (suc j) (omega arith)))

  climbs-at : (xs : List X) → ((i j : ℕ) (d : X) → i ≤ j → j < length xs → lt (get_or xs j d) (get_or xs i d) ≡ false) → Climbs xs
  climbs-at [] h = tt
  climbs-at (x ∷ xs) h = (
    none-at x xs (λ j p. h 0 (suc j) x (omega arith) (omega arith)),
    climbs-at xs (λ i j d p q. h (suc i) (suc j) d (omega arith) (omega arith)),
  )

  pub climbs-sorted : (xs : List X) → IsSortedBy lt xs → Climbs xs
  climbs-sorted xs up = climbs-at xs (sorted_far lt o xs up)

-- ---- the order of the columns

flipped : IsTotalOrder (λ v w. value_cmp w v)
flipped = record {
  antisymm = λ x y. value_total.antisymm y x;
  trans = λ x y z p q. value_total.trans z y x q p;
  congr = λ x y z e.
      value_total.antisymm z x
      ∙ ap ordering_reverse (value_total.congr x y z (value_total.antisymm x y ∙ ap ordering_reverse e))
      ∙ sym (value_total.antisymm z y);
}

turned : (r : Ordering) → ordering_reverse r ≡ in_order Down r
turned Less = refl
turned Equal = refl
turned Greater = refl

by_order-total : (order : Order) → IsTotalOrder (λ v w. in_order order (value_cmp v w))
by_order-total Up = value_total
by_order-total Down = subst (λ (R : Value → Value → Ordering). IsTotalOrder R) (λ i v w. (value_total.antisymm w v ∙ turned (value_cmp v w)) i) flipped

all-tie : IsTotalOrder (λ (x y : Tuple). Equal)
all-tie = record { antisymm = λ x y. refl; trans = λ x y z p q. cc; congr = λ x y z e. refl }

pub sort_cmp-total : (ks : List SortKey) → IsTotalOrder (sort_cmp ks)
sort_cmp-total [] = all-tie
sort_cmp-total (k ∷ ks) = then_total (on_total (λ (row : Tuple). get_or row k.column (Int (pos 0))) (by_order-total k.order)) (sort_cmp-total ks)

-- ---- entries that are put in one after another

abbrev Entry : Type 0
Entry = RowPlace × Tuple

is_lt-reverse : (r : Ordering) → is_lt (ordering_reverse r) ≡ is_gt r
is_lt-reverse Less = refl
is_lt-reverse Equal = refl
is_lt-reverse Greater = refl

module _ (ks : List SortKey) where
  abbrev pub stands_before : Entry → Entry → Bool
  stands_before x y = is_lt (sort_cmp ks x.1 y.1)

  pub is-order : IsStrictWeakOrder stands_before
  is-order = ranks_by (sort_cmp-total ks) (λ (e : Entry). e.1)

  after-is : (e x : Entry) → is_gt (sort_cmp ks e.1 x.1) ≡ stands_before x e
  after-is e x = sym (is_lt-reverse (sort_cmp ks e.1 x.1)) ∙ ap is_lt (sym ((sort_cmp-total ks).antisymm x.1 e.1))

  none-chain : (x e : Entry) (ys : List Entry) → stands_before x e ≡ false → NoneBelow stands_before is-order x ys → NoneBelow stands_before is-order e ys
  none-chain x e [] p h = tt
  none-chain x e (y ∷ ys) p h = (is-order.chain y x e h.0 p, none-chain x e ys p h.1)

  none-put : (x e : Entry) (ys : List Entry) → stands_before e x ≡ false → NoneBelow stands_before is-order x ys
      → NoneBelow stands_before is-order x (put_in ks e ys)
  none-put x e [] p h = (p, tt)
  none-put x e (y ∷ ys) p h = at (is_gt (sort_cmp ks e.1 y.1)) (none-put x e ys p h.1)
    where
      at : (b : Bool) → NoneBelow stands_before is-order x (put_in ks e ys) → NoneBelow stands_before is-order x (cond b (y ∷ put_in ks e ys) (e ∷ y ∷ ys))
      at true rest = (h.0, rest)
      at false rest = (p, h)

  climbs-put : (e : Entry) (ys : List Entry) → Climbs stands_before is-order ys → Climbs stands_before is-order (put_in ks e ys)
  climbs-put e [] h = (tt, tt)
  climbs-put e (y ∷ ys) h = at (is_gt (sort_cmp ks e.1 y.1)) refl (climbs-put e ys h.1)
    where
      at : (b : Bool) → is_gt (sort_cmp ks e.1 y.1) ≡ b → Climbs stands_before is-order (put_in ks e ys)
          → Climbs stands_before is-order (cond b (y ∷ put_in ks e ys) (e ∷ y ∷ ys))
      at true is rest = (none-put y e ys (is-order.one_way y e (sym (after-is e y) ∙ is)) h.0, rest)
      at false is rest = let level : stands_before y e ≡ false = sym (after-is e y) ∙ is in ((level, none-chain y e ys level h.0), h)

  pub climbs-sorted_by : (es : List Entry) → Climbs stands_before is-order (sorted_by ks es)
  climbs-sorted_by [] = tt
  climbs-sorted_by (e ∷ es) = climbs-put e (sorted_by ks es) (climbs-sorted_by es)

  filter-put : (z e : Entry) (ys : List Entry) → filter (ties stands_before z) (put_in ks e ys) ≡ filter (ties stands_before z) (e ∷ ys)
  filter-put z e [] = refl
  filter-put z e (y ∷ ys) = at (is_gt (sort_cmp ks e.1 y.1)) refl (filter-put z e ys)
    where
      at : (b : Bool) → is_gt (sort_cmp ks e.1 y.1) ≡ b → filter (ties stands_before z) (put_in ks e ys) ≡ filter (ties stands_before z) (e ∷ ys)
          → filter (ties stands_before z) (cond b (y ∷ put_in ks e ys) (e ∷ y ∷ ys)) ≡ filter (ties stands_before z) (e ∷ y ∷ ys)
      at true is more =
          ap (λ f. cond (ties stands_before z y) (y ∷ f) f) more
          ∙ swapped (ties stands_before z y) (ties stands_before z e) y e (filter (ties stands_before z) ys) (λ p q.
          let first = untied stands_before is-order z y p in
          let second = untied stands_before is-order z e q in
          let clash : true ≡ false = sym is ∙ after-is e y ∙ is-order.chain y z e first.1 second.0 in cc)
      at false is more = refl

  pub filter-sorted_by : (z : Entry) (es : List Entry) → filter (ties stands_before z) (sorted_by ks es) ≡ filter (ties stands_before z) es
  filter-sorted_by z [] = refl
  filter-sorted_by z (e ∷ es) = filter-put z e (sorted_by ks es) ∙ ap (λ f. cond (ties stands_before z e) (e ∷ f) f) (filter-sorted_by z es)

  -- what a stable sort leaves
  pub sorted-is : (xs ys : List Entry) → IsSortedBy stands_before ys → IsStableBy stands_before xs ys → ys ≡ sorted_by ks xs
  sorted-is xs ys up stable =
      same-climb stands_before is-order ys (sorted_by ks xs) (climbs-sorted stands_before is-order ys up) (climbs-sorted_by xs) (λ z. stable z
      ∙ sym (filter-sorted_by z xs))

-- without keys nothing is sorted
pub sorted-none : (keys : List SortKey) (es : List (RowPlace × Tuple)) → length keys ≡ 0 → es ≡ sorted_by keys es
sorted-none [] [] none = refl
sorted-none [] (e ∷ es) none = sym (ap (put_in [] e) (sym (sorted-none [] es none)) ∙ at es)
  where
    at : (xs : List (RowPlace × Tuple)) → put_in [] e xs ≡ e ∷ xs
    at [] = refl
    at (x ∷ xs) = refl
sorted-none (k ∷ keys) es none = absurd (omega (arith, none))
