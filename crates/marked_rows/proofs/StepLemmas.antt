-- Steps of a store one after another: which of them may change places, and what the later makes of the earlier.
use Rattle.std.proofs.Common.{◌≡◌, ◌≢◌, refl, sym, ap, ◌∙◌, subst, ℕ, Bool, true, false, cond, ◌⊎◌, inl, inr, Option, Some, None}
use Rattle.std.specs.Option.{unwrap_or}
use Rattle.std.proofs.lemmas.Bool.{false_from_ne_true}
use Rattle.finite_maps.specs.Map
use Rattle.finite_maps.specs.Map.{Map, Order, empty, get, get-empty, get-insert, get-remove, insert, same_key, same_key-refl, same_key-true, same_map}
use Rattle.lock_modes.specs.RowPlace.{RowPlace, place_order}
use Rattle.lock_modes.specs.Rows.{Rows', Tuple}
use Rattle.row_tables.specs.Overlay.{Overlay, laid, lay}
use Rattle.row_tables.specs.Layers.{Layers, kept, no_rows, overlay_of, session_order, sight, undone, wrote}
use Rattle.row_tables.proofs.OverlayLemmas.{get-laid, get-lay, over}
use Rattle.row_tables.proofs.LayersLemmas.{overlay_of-undone, overlay_of-wrote}
use Rattle.marked_rows.specs.Cells.{committed_at}

abbrev same_place : RowPlace → RowPlace → Bool
same_place p q = same_key place_order p q

pub key-other : {K : Type 0} (o : Order K) (k j : K) → k ≢ j → same_key o k j ≡ false
key-other o k j ne = false_from_ne_true (same_key o k j) (λ e. ne (same_key-true o k j e))

-- ---- maps

module _ {K X : Type 0} {o : Order K} (m : Map o X) where
  twice : (b : Bool) (v w : X) (x : Option X) → cond b (Some w) (cond b (Some v) x) ≡ cond b (Some w) x
  twice true v w x = refl
  twice false v w x = refl

  -- the later of two values at one key stands
  insert-again : (k : K) (v w : X) → insert (insert m k v) k w ≡ insert m k w
  insert-again k v w = same_map _ _ (λ q.
      get-insert (insert m k v) k w q ∙ ap (cond (same_key o q k) (Some w)) (get-insert m k v q) ∙ twice (same_key o q k) v w (get m q)
      ∙ sym (get-insert m k w q))

  -- both keys are not one
  apart : (k j : K) → k ≢ j → (q : K) → same_key o q k ≡ true → same_key o q j ≡ false
  apart k j ne q e = key-other o q j (λ f. ne (sym (same_key-true o q k e) ∙ f))

  either : (a b : Bool) → (a ≡ true → b ≡ false) → (v w : X) (x : Option X) → cond b (Some w) (cond a (Some v) x) ≡ cond a (Some v) (cond b (Some w) x)
  either true true not_both v w x = let never : true ≡ false = not_both refl in cc
  either true false not_both v w x = refl
  either false b not_both v w x = refl

  -- values at two keys may be put in either order
  insert-swap : (k j : K) (v w : X) → k ≢ j → insert (insert m k v) j w ≡ insert (insert m j w) k v
  insert-swap k j v w ne = same_map _ _ (λ q.
      get-insert (insert m k v) j w q ∙ ap (cond (same_key o q j) (Some w)) (get-insert m k v q)
      ∙ either (same_key o q k) (same_key o q j) (apart k j ne q) v w (get m q)
      ∙ sym (ap (cond (same_key o q k) (Some v)) (get-insert m j w q)) ∙ sym (get-insert (insert m j w) k v q))

  gone : (b : Bool) (v : X) (x : Option X) → cond b None (cond b (Some v) x) ≡ cond b None x
  gone true v x = refl
  gone false v x = refl

  -- a value that is removed again is not there
  remove-put : (k : K) (v : X) → Map.remove (insert m k v) k ≡ Map.remove m k
  remove-put k v = same_map _ _ (λ q.
      get-remove (insert m k v) k q ∙ ap (cond (same_key o q k) None) (get-insert m k v q) ∙ gone (same_key o q k) v (get m q)
      ∙ sym (get-remove m k q))

  else : (a b : Bool) → (a ≡ true → b ≡ false) → (v : X) (x : Option X) → cond b None (cond a (Some v) x) ≡ cond a (Some v) (cond b None x)
  else true true not_both v x = let never : true ≡ false = not_both refl in cc
  else true false not_both v x = refl
  else false b not_both v x = refl

  -- a value at another key stays
  remove-other : (k j : K) (v : X) → k ≢ j → Map.remove (insert m k v) j ≡ insert (Map.remove m j) k v
  remove-other k j v ne = same_map _ _ (λ q.
      get-remove (insert m k v) j q ∙ ap (cond (same_key o q j) None) (get-insert m k v q)
      ∙ else (same_key o q k) (same_key o q j) (apart k j ne q) v (get m q)
      ∙ sym (ap (cond (same_key o q k) (Some v)) (get-remove m j q)) ∙ sym (get-insert (Map.remove m j) k v q))

nothing : {X : Type 0} (b : Bool) → cond {A = Option X} b None None ≡ None
nothing true = refl
nothing false = refl

remove-empty : {K X : Type 0} (o : Order K) (k : K) → Map.remove (empty {X = X} {o = o}) k ≡ empty
remove-empty {K} {X} o k = same_map _ _ (λ q.
    get-remove (empty {X = X} {o = o}) k q ∙ ap (cond (same_key o q k) None) (get-empty o X q) ∙ nothing (same_key o q k) ∙ sym (get-empty o X q))

-- ---- sessions

-- layers of the same parts are one
same_parts : (a b : Rows') (x y : Map session_order Overlay) → a ≡ b → x ≡ y
    → (let l : Layers = record { committed = a; overlays = x } in l) ≡ record { committed = b; overlays = y }
same_parts a b x y e f = λ i. record { committed = e i; overlays = f i }

own-overlay : (s : ℕ) (p : RowPlace) (left : Option Tuple) (l : Layers) → overlay_of s (wrote s p left l) ≡ insert (overlay_of s l) p left
own-overlay s p left l =
    overlay_of-wrote s p left l s ∙ ap (λ b. cond b (insert (overlay_of s l) p left) (overlay_of s l)) (same_key-refl session_order s)

other-overlay : (s t : ℕ) (p : RowPlace) (left : Option Tuple) (l : Layers) → t ≢ s → overlay_of t (wrote s p left l) ≡ overlay_of t l
other-overlay s t p left l ne =
    overlay_of-wrote s p left l t ∙ ap (λ b. cond b (insert (overlay_of s l) p left) (overlay_of t l)) (key-other session_order t s ne)

module _ (l : Layers) where
  -- the later of two writes of a session at one place stands
  pub wrote-again : (s : ℕ) (p : RowPlace) (a b : Option Tuple) → wrote s p b (wrote s p a l) ≡ wrote s p b l
  wrote-again s p a b =
      same_parts l.committed l.committed _ _ refl
      (ap (λ o. insert (wrote s p a l).overlays s (insert o p b)) (own-overlay s p a l)
      ∙ ap (insert (wrote s p a l).overlays s) (insert-again (overlay_of s l) p a b)
      ∙ insert-again l.overlays s (insert (overlay_of s l) p a) (insert (overlay_of s l) p b))

  own-swap : (s : ℕ) (p q : RowPlace) (a b : Option Tuple) → p ≢ q → wrote s p a (wrote s q b l) ≡ wrote s q b (wrote s p a l)
  own-swap s p q a b ne =
      same_parts l.committed l.committed _ _ refl
      (ap (λ o. insert (wrote s q b l).overlays s (insert o p a)) (own-overlay s q b l)
      ∙ insert-again l.overlays s (insert (overlay_of s l) q b) (insert (insert (overlay_of s l) q b) p a)
      ∙ ap (insert l.overlays s) (sym (insert-swap (overlay_of s l) p q a b ne))
      ∙ sym (insert-again l.overlays s (insert (overlay_of s l) p a) (insert (insert (overlay_of s l) p a) q b))
      ∙ sym (ap (λ o. insert (wrote s p a l).overlays s (insert o q b)) (own-overlay s p a l)))

  -- sessions may write in either order
  other-swap : (s t : ℕ) (p q : RowPlace) (a b : Option Tuple) → s ≢ t → wrote s p a (wrote t q b l) ≡ wrote t q b (wrote s p a l)
  other-swap s t p q a b ne =
      same_parts l.committed l.committed _ _ refl
      (ap (λ o. insert (wrote t q b l).overlays s (insert o p a)) (other-overlay t s q b l ne)
      ∙ insert-swap l.overlays t s (insert (overlay_of t l) q b) (insert (overlay_of s l) p a) (λ e. ne (sym e))
      ∙ sym (ap (λ o. insert (wrote s p a l).overlays t (insert o q b)) (other-overlay s t p a l (λ e. ne (sym e)))))

  -- and so may writes at two places
  pub wrote-swap : (s t : ℕ) (p q : RowPlace) (a b : Option Tuple) → (s ≡ t) ⊎ (s ≢ t) → p ≢ q → wrote s p a (wrote t q b l) ≡ wrote t q b (wrote s p a l)
  wrote-swap s t p q a b (inl same) ne = subst (λ u. wrote s p a (wrote u q b l) ≡ wrote u q b (wrote s p a l)) same (own-swap s p q a b ne)
  wrote-swap s t p q a b (inr other) ne = other-swap s t p q a b other

  -- a write that is undone was never there
  pub undone-own : (s : ℕ) (p : RowPlace) (a : Option Tuple) → undone s (wrote s p a l) ≡ undone s l
  undone-own s p a = same_parts l.committed l.committed _ _ refl (remove-put l.overlays s (insert (overlay_of s l) p a))

  without-other : (s t : ℕ) → t ≢ s → overlay_of t (undone s l) ≡ overlay_of t l
  without-other s t ne = overlay_of-undone s l t ∙ ap (λ b. cond b empty (overlay_of t l)) (key-other session_order t s ne)

  overlays-other : (s t : ℕ) (p : RowPlace) (a : Option Tuple) → t ≢ s
      → Map.remove (wrote t p a l).overlays s ≡ insert (Map.remove l.overlays s) t (insert (overlay_of t (undone s l)) p a)
  overlays-other s t p a ne =
      remove-other l.overlays t s (insert (overlay_of t l) p a) ne
      ∙ sym (ap (λ o. insert (Map.remove l.overlays s) t (insert o p a)) (without-other s t ne))

  -- what another session wrote stays
  pub undone-other : (s t : ℕ) (p : RowPlace) (a : Option Tuple) → t ≢ s → undone s (wrote t p a l) ≡ wrote t p a (undone s l)
  undone-other s t p a ne = same_parts l.committed l.committed _ _ refl (overlays-other s t p a ne)

  -- a write that is kept is committed, whatever was
  pub kept-own : (s : ℕ) (p : RowPlace) (a b : Option Tuple) → kept s (wrote s p a (committed_at p b l)) ≡ committed_at p a (kept s l)
  kept-own s p a b = same_parts _ _ _ _ (same_map _ _ at) (remove-put l.overlays s (insert (overlay_of s l) p a))
    where
      pick : (x : Bool) (o : Option (Option Tuple)) (r : Option Tuple) → over (cond x (Some a) o) (cond x b r) ≡ cond x a (over o r)
      pick true o r = refl
      pick false o r = refl

      at : (q : RowPlace) → get (sight s (wrote s p a (committed_at p b l))) q ≡ get (laid p a (sight s l)) q
      at q =
          get-lay (overlay_of s (wrote s p a (committed_at p b l))) (laid p b l.committed) q
          ∙ ap (λ o. over (get o q) (get (laid p b l.committed) q)) (own-overlay s p a (committed_at p b l))
          ∙ ap (λ o. over o (get (laid p b l.committed) q)) (get-insert (overlay_of s l) p a q)
          ∙ ap (over (cond (same_place q p) (Some a) (get (overlay_of s l) q))) (get-laid p b l.committed q)
          ∙ pick (same_place q p) (get (overlay_of s l) q) (get l.committed q)
          ∙ ap (cond (same_place q p) a) (sym (get-lay (overlay_of s l) l.committed q)) ∙ sym (get-laid p a (sight s l) q)

  pub kept-other : (s t : ℕ) (p : RowPlace) (a : Option Tuple) → t ≢ s → kept s (wrote t p a l) ≡ wrote t p a (kept s l)
  kept-other s t p a ne =
      same_parts _ _ _ _ (ap (λ o. lay o l.committed) (other-overlay t s p a l (λ e. ne (sym e)))) (overlays-other s t p a ne)

  -- a row that is committed where the session has not written is committed still
  pub kept-committed : (s : ℕ) (p : RowPlace) (b : Option Tuple) → get (overlay_of s l) p ≡ None → kept s (committed_at p b l) ≡ committed_at p b (kept s l)
  kept-committed s p b none = same_parts _ _ _ _ (same_map _ _ (λ q. at q (same_place q p) refl)) refl
    where
      at : (q : RowPlace) (x : Bool) → same_place q p ≡ x → get (sight s (committed_at p b l)) q ≡ get (laid p b (sight s l)) q
      at q true is =
          let here : get (overlay_of s l) q ≡ None = ap (get (overlay_of s l)) (same_key-true place_order q p is) ∙ none in
          get-lay (overlay_of s l) (laid p b l.committed) q ∙ ap (λ o. over o (get (laid p b l.committed) q)) here
          ∙ get-laid p b l.committed q ∙ ap (λ x. cond x b (get l.committed q)) is
          ∙ sym (get-laid p b (sight s l) q ∙ ap (λ x. cond x b (get (sight s l) q)) is)
      at q false is =
          get-lay (overlay_of s l) (laid p b l.committed) q
          ∙ ap (over (get (overlay_of s l) q)) (get-laid p b l.committed q ∙ ap (λ x. cond x b (get l.committed q)) is)
          ∙ sym (get-laid p b (sight s l) q ∙ ap (λ x. cond x b (get (sight s l) q)) is ∙ get-lay (overlay_of s l) l.committed q)

-- ---- nothing is there

pub undone-nothing : (s : ℕ) → undone s no_rows ≡ no_rows
undone-nothing s = same_parts _ _ _ _ refl (remove-empty session_order s)

pub overlay_of-nothing : (s : ℕ) → overlay_of s no_rows ≡ empty
overlay_of-nothing s = ap (λ o. unwrap_or o empty) (get-empty session_order Overlay s)

pub kept-nothing : (s : ℕ) → kept s no_rows ≡ no_rows
kept-nothing s = same_parts _ _ _ _ (same_map _ _ (λ q.
    get-lay (overlay_of s no_rows) no_rows.committed q ∙ ap (λ (o : Overlay). over (get o q) (get no_rows.committed q)) (overlay_of-nothing s)
    ∙ ap (λ o. over o (get no_rows.committed q)) (get-empty place_order (Option Tuple) q))) (remove-empty session_order s)

-- where no row is committed none may be left
pub laid-absent : (l : Layers) (p : RowPlace) → get l.committed p ≡ None → committed_at p None l ≡ l
laid-absent l p none = same_parts _ _ _ _ (same_map _ _ (λ q. get-remove l.committed p q ∙ at q (same_place q p) refl)) refl
  where
    at : (q : RowPlace) (b : Bool) → same_place q p ≡ b → cond (same_place q p) None (get l.committed q) ≡ get l.committed q
    at q true is =
        ap (λ b. cond b None (get l.committed q)) is ∙ sym none ∙ ap (get l.committed) (sym (same_key-true place_order q p is))
    at q false is = ap (λ b. cond b None (get l.committed q)) is
