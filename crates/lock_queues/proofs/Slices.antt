-- From one map of all that is held to a map for each session, and back: what the lock table does is what the world does.
use Rattle.std.proofs.Common.{◌≡◌, ◌≢◌, refl, sym, ap, ◌∙◌, ℕ, Bool, true, false, cond, not, ◌&&◌, ◌==◌, List, [], ◌∷◌, Some, None, eqb-true, eq-eqb}
use Rattle.std.specs.FinMap.Entries.{find}
use Rattle.std.proofs.lemmas.Bool.{both_ways, false_from_ne_true}
use Rattle.finite_maps.specs.Map.{Map, same_key, same_key-true, same_key-refl, get, insert, get-insert, keep, get-keep, entries, empty, get-empty, same_map}
use Rattle.lock_modes.specs.Resource.{resource_order}
use Rattle.lock_queues.specs.LockTable.{Holding, holding_cmp, holding_order, slice, slice_of}
use Rattle.lock_modes.specs.declared.mode.Mode.{Mode}
use Rattle.lock_modes.specs.declared.resource.Resource.{Resource}

-- the key of a session and a resource, by its parts
same-holding : (i c : ℕ) (r q : Resource) → same_key holding_order (i, r) (c, q) ≡ ((c == i) && same_key resource_order r q)
same-holding i c r q = at (c == i) refl (same_key resource_order r q) refl
  where
    at : (x : Bool) → (c == i) ≡ x → (y : Bool) → same_key resource_order r q ≡ y → same_key holding_order (i, r) (c, q) ≡ (x && y)
    at true ic true rq =
        let e : c ≡ i = eqb-true c i ic in
        let f : r ≡ q = same_key-true resource_order r q rq in
        (λ k. same_key holding_order (sym e k, f k) (c, q)) ∙ same_key-refl holding_order (c, q)
    at true ic false rq =
        false_from_ne_true _ (λ h. both_ways _ rq (ap (λ (x : Holding). same_key resource_order r x.1) (sym (same_key-true holding_order (i, r) (c, q) h))
        ∙ same_key-refl resource_order r))
    at false ic y rq = false_from_ne_true _ (λ h. both_ways _ ic (eq-eqb c i (sym (ap (λ (x : Holding). x.0) (same_key-true holding_order (i, r) (c, q) h)))))

get-slice_of : (i : ℕ) (es : List (Holding × Mode)) (r : Resource) → get (slice_of i es) r ≡ find holding_cmp (i, r) es
get-slice_of i [] r = get-empty resource_order Mode r
get-slice_of i (e ∷ es) r = at (e.0.0 == i) (get-slice_of i es r)
    ∙ ap (λ b. cond b (Some e.1) (find holding_cmp (i, r) es)) (sym (same-holding i e.0.0 r e.0.1))
  where
    at : (b : Bool) → get (slice_of i es) r ≡ find holding_cmp (i, r) es → get (cond b (insert (slice_of i es) e.0.1 e.1) (slice_of i es)) r
        ≡ cond (b && same_key resource_order r e.0.1) (Some e.1) (find holding_cmp (i, r) es)
    at true rest = get-insert (slice_of i es) e.0.1 e.1 r ∙ ap (cond (same_key resource_order r e.0.1) (Some e.1)) rest
    at false rest = rest

-- the session's own map has what the table has for it
pub get-slice : (i : ℕ) (m : Map holding_order Mode) (r : Resource) → get (slice i m) r ≡ get m (i, r)
unfolding slice get entries
get-slice i m r = get-slice_of i m.list r

-- what the session takes goes into its own map
pub slice-insert : (m : Map holding_order Mode) (i : ℕ) (r : Resource) (x : Mode) → slice i (insert m (i, r) x) ≡ insert (slice i m) r x
slice-insert m i r x = same_map _ _ (λ q.
    get-slice i (insert m (i, r) x) q ∙ get-insert m (i, r) x (i, q)
    ∙ ap (λ b. cond b (Some x) (get m (i, q))) (same-holding i i q r ∙ ap (λ b. b && same_key resource_order q r) (eq-eqb i i refl))
    ∙ ap (cond (same_key resource_order q r) (Some x)) (sym (get-slice i m q)) ∙ sym (get-insert (slice i m) r x q))

-- and into no other
pub slice-insert_other : (m : Map holding_order Mode) (i j : ℕ) (r : Resource) (x : Mode) → j ≢ i → slice j (insert m (i, r) x) ≡ slice j m
slice-insert_other m i j r x ne = same_map _ _ (λ q.
    get-slice j (insert m (i, r) x) q ∙ get-insert m (i, r) x (j, q)
    ∙ ap (λ b. cond b (Some x) (get m (j, q))) (same-holding j i q r
    ∙ ap (λ b. b && same_key resource_order q r) (false_from_ne_true _ (λ h. ne (sym (eqb-true i j h)))))
    ∙ sym (get-slice j m q))

-- who lets go holds nothing
pub slice-let_go : (m : Map holding_order Mode) (i : ℕ) → slice i (keep (λ (h : Holding). not (h.0 == i)) m) ≡ empty
slice-let_go m i = same_map _ _ (λ q.
    get-slice i (keep (λ (h : Holding). not (h.0 == i)) m) q ∙ get-keep (λ (h : Holding). not (h.0 == i)) m (i, q)
    ∙ ap (λ b. cond (not b) (get m (i, q)) None) (eq-eqb i i refl) ∙ sym (get-empty resource_order Mode q))

-- and others what they held
pub slice-let_go_other : (m : Map holding_order Mode) (i j : ℕ) → j ≢ i → slice j (keep (λ (h : Holding). not (h.0 == i)) m) ≡ slice j m
slice-let_go_other m i j ne = same_map _ _ (λ q.
    get-slice j (keep (λ (h : Holding). not (h.0 == i)) m) q ∙ get-keep (λ (h : Holding). not (h.0 == i)) m (j, q)
    ∙ ap (λ b. cond (not b) (get m (j, q)) None) (false_from_ne_true (j == i) (λ h. ne (eqb-true j i h))) ∙ sym (get-slice j m q))
