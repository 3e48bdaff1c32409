-- The entries of a map stand in the order of their keys, and are what it has.
use Rattle.std.proofs.Common.{◌≡◌, refl, sym, ap, ◌∙◌, subst, Bool, true, false, cond, ◌&&◌, List}
use Rattle.std.proofs.Common.{[], ◌∷◌}
use Rattle.std.proofs.Common.{Some, None, ◌⊎◌, inl, inr, ◌↔◌}
use Rattle.std.specs.Prelude.{T}
use Rattle.std.specs.Ordering.{eq_by_cmp, is_eq, is_lt}
use Rattle.std.specs.FinMap.Entries.{find, is_sorted, below_all}
use Rattle.std.specs.declared.cmp.Ordering.{Ordering}
use Rattle.std.specs.declared.cmp.Ordering.TheVariants.{Less, Equal, Greater}
use Rattle.std.proofs.lemmas.Bool.{both_ways, false_from_ne_true}
use Rattle.finite_maps.specs.Map.{Order, Map, get, entries, same_key-true, same_key-refl}
use Rattle.lock_queues.specs.Reasons.{Among}
use Rattle.statement_evaluation.proofs.ListLemmas.{Each}
use Rattle.machine_model.proofs.Takings.{each-all}
use Rattle.line_moments.specs.Left.{KeysRise}

front : (a b : Bool) → T (a && b) → T a
front true b p = tt
front false b p = p

back : (a b : Bool) → T (a && b) → T b
back true b p = p
back false b p = absurd p

less : (r : Ordering) → T (is_lt r) → r ≡ Less
less Less h = refl
less Equal h = absurd h
less Greater h = absurd h

module _ {K X : Type 0} (o : Order K) where
  each-below : (k : K) (es : List (K × X)) → T (below_all o.cmp k es) → Each (λ (f : K × X). o.cmp k f.0 ≡ Less) es
  each-below k [] h = tt
  each-below k (e ∷ es) h = (less (o.cmp k e.0) (front _ _ h), each-below k es (back _ _ h))

  pub keys-rise : (es : List (K × X)) → T (is_sorted o.cmp es) → KeysRise o.cmp es
  keys-rise [] h = tt
  keys-rise (e ∷ es) h = (each-all (λ (f : K × X). o.cmp e.0 f.0 ≡ Less) es (each-below e.0 es (front _ _ h)), keys-rise es (back _ _ h))

  -- what is found stands there
  pub find-among : (q : K) (x : X) (es : List (K × X)) → find o.cmp q es ≡ Some x → Among (q, x) es
  find-among q x [] h = absurd (let y : None ≡ Some x = h in cc)
  find-among q x (e ∷ es) h = at (eq_by_cmp o.cmp q e.0) refl h (find-among q x es)
    where
      at : (b : Bool) → eq_by_cmp o.cmp q e.0 ≡ b → cond b (Some e.1) (find o.cmp q es) ≡ Some x → (find o.cmp q es ≡ Some x → Among (q, x) es)
          → ((q, x) ≡ e) ⊎ Among (q, x) es
      at true is k rec =
          let key : q ≡ e.0 = same_key-true o q e.0 is in
          let value : e.1 ≡ x = (let y : Some e.1 ≡ Some x = k in cc) in
          inl (λ i. (key i, sym value i))
      at false is k rec = inr (rec k)

  not-among : (k q : K) (x : X) (es : List (K × X)) → Each (λ (f : K × X). o.cmp k f.0 ≡ Less) es → Among (q, x) es → o.cmp k q ≡ Less
  not-among k q x [] h m = absurd m
  not-among k q x (e ∷ es) h (inl is) = ap (λ (f : K × X). o.cmp k f.0) is ∙ h.0
  not-among k q x (e ∷ es) h (inr m) = not-among k q x es h.1 m

  -- and what stands there is found
  pub among-find : (q : K) (x : X) (es : List (K × X)) → T (is_sorted o.cmp es) → Among (q, x) es → find o.cmp q es ≡ Some x
  among-find q x [] h m = absurd m
  among-find q x (e ∷ es) h (inl is) =
      ap (λ b. cond b (Some e.1) (find o.cmp q es)) (ap (λ (f : K × X). eq_by_cmp o.cmp q f.0) (sym is) ∙ same_key-refl o q)
      ∙ ap (λ (f : K × X). Some f.1) (sym is)
  among-find q x (e ∷ es) h (inr m) =
      let before : o.cmp e.0 q ≡ Less = not-among e.0 q x es (each-below e.0 es (front _ _ h)) m in
      let apart : eq_by_cmp o.cmp q e.0 ≡ false =
      false_from_ne_true _ (λ k. both_ways (is_eq (o.cmp e.0 q)) (ap is_eq before)
      (ap (λ z. is_eq (o.cmp e.0 z)) (same_key-true o q e.0 k) ∙ same_key-refl o e.0)) in
      ap (λ b. cond b (Some e.1) (find o.cmp q es)) apart ∙ among-find q x es (back _ _ h) m

  -- the entries of a map are what it has
  pub entries-are : (m : Map o X) (q : K) (x : X) → Among (q, x) (entries m) ↔ (get m q ≡ Some x)
  unfolding get entries
  entries-are m q x = (among-find q x m.list m.sorted, find-among q x m.list)

  pub entries-rise : (m : Map o X) → KeysRise o.cmp (entries m)
  unfolding entries
  entries-rise m = keys-rise m.list m.sorted

-- what holds of each of those that are among a list
pub among-each : {A : Type 0} (P : A → Type 0) (xs : List A) → Each P xs → (x : A) → Among x xs → P x
among-each P [] h x m = absurd m
among-each P (y ∷ ys) h x (inl is) = subst P (sym is) h.0
among-each P (y ∷ ys) h x (inr m) = among-each P ys h.1 x m

pub each-among : {A : Type 0} (P : A → Type 0) (xs : List A) → ((x : A) → Among x xs → P x) → Each P xs
each-among P [] h = tt
each-among P (x ∷ xs) h = (h x (inl refl), each-among P xs (λ y m. h y (inr m)))
