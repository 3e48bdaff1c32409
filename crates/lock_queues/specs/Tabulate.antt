-- A finite map by its look-ups: the keys that may be there, and what each is mapped to.
use Rattle.std.specs.Prelude.{◌≡◌, refl, Bool, true, false, cond, ◌||◌, List, [], ◌∷◌, Option, Some, None, is_some}
use Rattle.std.proofs.Common.{sym, ap, ◌∙◌}
use Rattle.std.specs.List.{list_any}
use Rattle.finite_maps.specs.Map.{Order, Map, same_key, same_key-true, get, get-empty, insert, get-insert, empty}

module _ {K X : Type 0} (o : Order K) where
  abbrev pub with_entry : Map o X → K → Option X → Map o X
  with_entry m k None = m
  with_entry m k (Some v) = insert m k v

  -- the map of the keys that are mapped to something
  unfoldable pub tabulate : (K → Option X) → List K → Map o X
  tabulate f [] = empty
  tabulate f (k ∷ ks) = with_entry (tabulate f ks) k (f k)

  get-all : (f : K → Option X) (ks : List K) (q : K) → get (tabulate f ks) q ≡ cond (list_any (same_key o q) ks) (f q) None
  unfolding tabulate
  get-all f [] q = get-empty o X q
  get-all f (k ∷ ks) q = at (same_key o q k) refl (f k) refl (get-all f ks q)
    where
      none : (b : Bool) (v : Option X) → v ≡ None → cond b v None ≡ None
      none true v e = e
      none false v e = refl

      same : same_key o q k ≡ true → f q ≡ f k
      same e = ap f (same_key-true o q k e)

      at : (b : Bool) → same_key o q k ≡ b → (v : Option X) → f k ≡ v → get (tabulate f ks) q ≡ cond (list_any (same_key o q) ks) (f q) None
          → get (with_entry (tabulate f ks) k v) q ≡ cond (b || list_any (same_key o q) ks) (f q) None
      at true e None n rest = let e' = same e ∙ n in rest ∙ none _ (f q) e' ∙ sym e'
      at false e None n rest = rest
      at true e (Some v) n rest = get-insert (tabulate f ks) k v q ∙ ap (λ b. cond b (Some v) (get (tabulate f ks) q)) e ∙ sym (same e ∙ n)
      at false e (Some v) n rest = get-insert (tabulate f ks) k v q ∙ ap (λ b. cond b (Some v) (get (tabulate f ks) q)) e ∙ rest

  -- a look-up where each key that is mapped to something is among the keys
  pub get-tabulate : (f : K → Option X) (ks : List K) (q : K) → (is_some (f q) ≡ true → list_any (same_key o q) ks ≡ true) → get (tabulate f ks) q ≡ f q
  get-tabulate f ks q known = get-all f ks q ∙ at (f q) known
    where
      at : (v : Option X) → (is_some v ≡ true → list_any (same_key o q) ks ≡ true) → cond (list_any (same_key o q) ks) v None ≡ v
      at None h = nothing (list_any (same_key o q) ks)
        where
          nothing : (b : Bool) → cond {A = Option X} b None None ≡ None
          nothing true = refl
          nothing false = refl
      at (Some v) h = ap (λ b. cond b (Some v) None) (h refl)
