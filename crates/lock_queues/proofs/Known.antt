-- A key that is found is among the keys.
use Rattle.std.specs.Prelude.{◌≡◌, refl, Bool, true, false, cond, ◌||◌, List, [], ◌∷◌, ◌++◌, map, Some, is_some}
use Rattle.std.proofs.Common.{subst}
use Rattle.std.specs.List.{list_any}
use Rattle.std.specs.FinMap.Entries.{find}
use Rattle.std.proofs.lemmas.Bool.{or_left, or_right}
use Rattle.finite_maps.specs.Map.{Order, same_key, same_key-true, same_key-refl}

pub any-left : {A : Type 0} (f : A → Bool) (xs ys : List A) → list_any f xs ≡ true → list_any f (xs ++ ys) ≡ true
any-left f [] ys e = absurd (true-false e)
  where
    true-false : false ≡ true → ⊥
    true-false e = cc
any-left f (x ∷ xs) ys e = at (any-left f xs ys) (f x) e
  where
    at : (list_any f xs ≡ true → list_any f (xs ++ ys) ≡ true) → (b : Bool) → (b || list_any f xs) ≡ true → (b || list_any f (xs ++ ys)) ≡ true
    at rest true h = refl
    at rest false h = rest h

pub any-right : {A : Type 0} (f : A → Bool) (xs ys : List A) → list_any f ys ≡ true → list_any f (xs ++ ys) ≡ true
any-right f [] ys e = e
any-right f (x ∷ xs) ys e = or_right (f x) _ (any-right f xs ys e)

-- a key that is found, under a name that it has in another order
pub known-through : {K L X : Type 0} (o : Order K) (p : Order L) (f : K → L) (q : K) (es : List (K × X)) → is_some (find o.cmp q es) ≡ true
    → list_any (same_key p (f q)) (map (λ e. f e.0) es) ≡ true
known-through o p f q [] e = cc
known-through {X = X} o p f q (x ∷ es) e = at (known-through o p f q es) (same_key o q x.0) refl e
  where
    at : (is_some (find o.cmp q es) ≡ true → list_any (same_key p (f q)) (map (λ e. f e.0) es) ≡ true) → (b : Bool) → same_key o q x.0 ≡ b
        → is_some (cond b (Some x.1) (find o.cmp q es)) ≡ true → list_any (same_key p (f q)) (map (λ e. f e.0) (x ∷ es)) ≡ true
    at rest true s h = or_left _ _ (subst (λ k. same_key p (f q) (f k) ≡ true) (same_key-true o q x.0 s) (same_key-refl p (f q)))
    at rest false s h = or_right (same_key p (f q) (f x.0)) _ (rest h)
