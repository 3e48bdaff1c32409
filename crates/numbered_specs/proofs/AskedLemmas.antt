-- What statements ask for, as it is gathered one request, statement and block after the other.
use Rattle.std.proofs.Common.{◌≡◌, refl, sym, ap, ◌∙◌, subst, ℕ, ◌+◌, ◌<◌, ◌≤◌, List, [], ◌∷◌, ◌++◌, length, map, take, get_or, Some, None, inl, inr, ◌⊎◌, zero, suc, arith}
use Rattle.std.specs.Ordering.{eq_by_cmp, is_eq}
use Rattle.std.specs.Cmp.{eq_by_cmp_equiv}
use Rattle.std.specs.Option.{option_map}
use Rattle.std.specs.List.{slice_get, flat_map, Contains, dedup}
use Rattle.std.specs.List.Sorted.{IsSorted, IsPermutation}
use Rattle.std.proofs.Common.{Ordering, Less, Equal, Greater, true}
use Rattle.std.proofs.lemmas.Option.{slice_get_within, get_or_from_slice_get, slice_get_cases, slice_get-map}
use Rattle.std.proofs.lemmas.List.{take_more, take_all, append-nil, append_assoc, length-map, get_or-map}
use Rattle.std.proofs.lemmas.List.Elements.{Contains-append_left, Contains-append_right}
use Rattle.std.proofs.lemmas.List.Concat.{flat_map-append}
use Rattle.std.proofs.lemmas.List.Kept.{IsStrictlySortedBy-dedup, Contains-dedup, Contains-from_dedup}
use Rattle.std.proofs.lemmas.List.Sorted.{Contains-permutation, IsPermutation-sym}
use Rattle.lock_modes.specs.Resource.{resource_cmp, resource_total, resource_same}
use Rattle.lock_modes.specs.declared.resource.Resource.{Resource}
use Rattle.bound_specs.specs.Spec.{Spec, no_step}
use Rattle.bound_statements.specs.declared.statement.Bound.{Bound}
use Rattle.bound_statements.specs.Plan.{Request, request, plan}
use Rattle.lock_modes.specs.declared.mode.Mode.{Mode}
use Rattle.numbered_specs.specs.Numbers.{asked_by, asked_in, asked_of, blocks_of, sent_by, NamesAll}

module _ {A : Type 0} where
  -- one more of a list is taken
  pub take-found : (xs : List A) (i : ℕ) (x : A) → slice_get xs i ≡ Some x → take (i + 1) xs ≡ take i xs ++ x ∷ []
  take-found xs i x e = take_more xs i x (slice_get_within xs i x e) ∙ ap (λ y. take i xs ++ y ∷ []) (get_or_from_slice_get xs i x x e)

  -- none is left
  pub take-none : (xs : List A) (i : ℕ) → slice_get xs i ≡ None → take i xs ≡ xs
  take-none xs i e = on (slice_get_cases xs i).1
    where
      on : ((x : A) × (i < length xs) × (slice_get xs i ≡ Some x) × (get_or xs i x ≡ x)) ⊎ ((length xs ≤ i) × (slice_get xs i ≡ None)) → take i xs ≡ xs
      on (inl h) = absurd (two (sym e ∙ h.2))
        where
          two : None ≡ Some h.0 → ⊥
          two e = cc
      on (inr h) = take_all i xs h.0

module _ {A : Type 0} where
  pub contains-head : (x : A) (xs : List A) → Contains (x ∷ xs) x
  contains-head x xs = (0, omega arith, refl)

  pub contains-tail : (y : A) (xs : List A) (x : A) → Contains xs x → Contains (y ∷ xs) x
  contains-tail y xs x c = let lt = c.1 in (suc c.0, omega (arith, lt), c.2)

pub contains-map : {A B : Type 0} (f : A → B) (xs : List A) (x : A) → Contains xs x → Contains (map f xs) (f x)
contains-map f xs x c =
    let long = length-map xs f in let lt = c.1 in (c.0, omega (arith, long, lt), get_or-map f xs c.0 x (f x) c.1 ∙ ap f c.2)

module _ {A B : Type 0} (f : A → List B) where
  -- what one gives is among what all give
  pub contains-given : (xs : List A) (x : A) (y : B) → Contains xs x → Contains (f x) y → Contains (flat_map f xs) y
  contains-given xs x y c = on xs c.0 c.1 c.2
    where
      on : (zs : List A) (i : ℕ) → i < length zs → get_or zs i x ≡ x → Contains (f x) y → Contains (flat_map f zs) y
      on [] i lt e h = absurd (omega (arith, lt))
      on (z ∷ zs) zero lt e h = Contains-append_left (f z) (flat_map f zs) y (subst (λ w. Contains (f w) y) (sym e) h)
      on (z ∷ zs) (suc i) lt e h = Contains-append_right (f z) (flat_map f zs) y (on zs i (omega (arith, lt)) e h)

  -- what one more gives is behind what those before it give
  pub flat_map-more : (xs : List A) (i : ℕ) (d : A) → i < length xs → flat_map f (take (i + 1) xs) ≡ flat_map f (take i xs) ++ f (get_or xs i d)
  flat_map-more xs i d lt =
      ap (flat_map f) (take_more xs i d lt) ∙ flat_map-append f (take i xs) (get_or xs i d ∷ [])
      ∙ ap (λ ys. flat_map f (take i xs) ++ ys) (append-nil (f (get_or xs i d)))

module _ (st : Bound) (old : List Resource) where
  -- the first so many resources that the statement asks for are behind those that were there
  abbrev pub AreAsked : ℕ → List Resource → Type 0
  AreAsked n all = all ≡ old ++ take n (asked_by st)

  pub asked-start : AreAsked 0 old
  asked-start = sym (append-nil old)

  pub asked-push : (n : ℕ) (all : List Resource) (r : Resource) (m : Mode) → slice_get (plan st) n ≡ Some (request r m) → AreAsked n all
      → AreAsked (n + 1) (all ++ r ∷ [])
  asked-push n all r m is h =
      let resource : Request → Resource = λ q. q.resource in
      let there : slice_get (asked_by st) n ≡ Some r = slice_get-map resource (plan st) n ∙ ap (option_map resource) is in
      ap (λ rs. rs ++ r ∷ []) h ∙ append_assoc old (take n (asked_by st)) (r ∷ []) ∙ ap (λ rs. old ++ rs) (sym (take-found (asked_by st) n r there))

  pub asked-none : (n : ℕ) (all : List Resource) → slice_get (plan st) n ≡ None → AreAsked n all → all ≡ old ++ asked_by st
  asked-none n all none h =
      let resource : Request → Resource = λ q. q.resource in
      h ∙ ap (λ rs. old ++ rs) (take-none (asked_by st) n (slice_get-map resource (plan st) n ∙ ap (option_map resource) none))

  pub asked-end : (n : ℕ) (all : List Resource) → length (plan st) ≤ n → AreAsked n all → all ≡ old ++ asked_by st
  asked-end n all past h =
      let resource : Request → Resource = λ q. q.resource in
      let long = length-map (plan st) resource in
      h ∙ ap (λ rs. old ++ rs) (take_all n (asked_by st) (omega (arith, long, past)))

module _ {A : Type 0} (f : A → List Resource) (xs : List A) (old : List Resource) where
  -- what the first so many give is behind what was there
  abbrev pub AreGiven : ℕ → List Resource → Type 0
  AreGiven n all = all ≡ old ++ flat_map f (take n xs)

  pub given-start : AreGiven 0 old
  given-start = sym (append-nil old)

  pub given-push : (n : ℕ) (all more : List Resource) (x d : A) → n < length xs → x ≡ get_or xs n d → more ≡ all ++ f x → AreGiven n all → AreGiven (n + 1) more
  given-push n all more x d lt is e h =
      e ∙ ap (λ rs. rs ++ f x) h ∙ append_assoc old (flat_map f (take n xs)) (f x)
      ∙ ap (λ rs. old ++ rs) (ap (λ y. flat_map f (take n xs) ++ f y) is ∙ sym (flat_map-more f xs n d lt))

  pub given-end : (n : ℕ) (all : List Resource) → length xs ≤ n → AreGiven n all → all ≡ old ++ flat_map f xs
  given-end n all past h = h ∙ ap (λ ys. old ++ flat_map f ys) (take_all n xs past)

-- what one step more sends
pub step-push : (spec : Spec) (old all more : List Resource) (k : ℕ) (sts : List Bound) → k < length spec.steps
    → sts ≡ (get_or spec.steps k no_step).statements → more ≡ all ++ asked_in sts → AreGiven asked_in (map sent_by spec.steps) old k all
    → AreGiven asked_in (map sent_by spec.steps) old (k + 1) more
step-push spec old all more k sts lt is e h =
    let long = length-map spec.steps sent_by in
    given-push asked_in (map sent_by spec.steps) old k all more sts [] (omega (arith, long, lt))
    (is ∙ sym (get_or-map sent_by spec.steps k no_step [] lt)) e h

-- the blocks of a spec, one part behind the other
pub of-blocks : (spec : Spec) (all more most : List Resource) → all ≡ [] ++ asked_of spec.setups → more ≡ all ++ asked_of spec.session_setups
    → most ≡ more ++ asked_of (map sent_by spec.steps) → most ≡ asked_of (blocks_of spec)
of-blocks spec all more most a b c =
    c ∙ ap (λ rs. rs ++ asked_of (map sent_by spec.steps)) (b ∙ ap (λ rs. rs ++ asked_of spec.session_setups) a)
    ∙ append_assoc (asked_of spec.setups) (asked_of spec.session_setups) (asked_of (map sent_by spec.steps))
    ∙ ap (λ rs. asked_of spec.setups ++ rs) (sym (flat_map-append asked_in spec.session_setups (map sent_by spec.steps)))
    ∙ sym (flat_map-append asked_in spec.setups (spec.session_setups ++ map sent_by spec.steps))

tied : (o : Ordering) → is_eq o ≡ true → o ≡ Equal
tied Less e = cc
tied Equal e = refl
tied Greater e = cc

one-of : (r s : Resource) → eq_by_cmp resource_cmp r s ≡ true → r ≡ s
one-of r s e = resource_same r s (tied (resource_cmp r s) e)

-- sorted, and each once
pub names-once : (spec : Spec) (asked sorted : List Resource) → IsSorted resource_cmp sorted → IsPermutation asked sorted
    → asked ≡ asked_of (blocks_of spec) → NamesAll spec (dedup (eq_by_cmp resource_cmp) sorted)
names-once spec asked sorted s same are = record {
  rise = IsStrictlySortedBy-dedup resource_total (λ x y. refl) sorted s;
  asked = λ r. (
    λ c. subst (λ rs. Contains rs r) are
        (Contains-permutation sorted asked r (IsPermutation-sym asked sorted same) (Contains-from_dedup (eq_by_cmp resource_cmp) sorted r c)),
    λ c. Contains-dedup (eq_by_cmp_equiv resource_total) one-of sorted r
        (Contains-permutation asked sorted r same (subst (λ rs. Contains rs r) (sym are) c)),
  );
}
