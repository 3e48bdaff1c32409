-- The modes of all sessions, each in a map of its own, are one map.
use Rattle.std.specs.Prelude.{◌≡◌, ◌≢◌, ◌↔◌, refl, ℕ, zero, suc, ◌+◌, ◌<◌, ◌≤◌, ◌⊎◌, Bool, true, false, cond, not, ◌&&◌, ◌==◌, [], ◌∷◌, ◌++◌, map, Some}
use Rattle.std.specs.Prelude.{None, is_some, length, get_or, set}
use Rattle.std.proofs.Common.{sym, ap, ◌∙◌, subst, arith, ⊎_elim, eqb-true, eq-eqb, get_or-set_same, get_or-set_other}
use Rattle.std.specs.List.{list_any}
use Rattle.std.specs.Ordering.{nat_cmp, eq_by_cmp}
use Rattle.std.proofs.lemmas.Bool.{both_ways}
use Rattle.std.proofs.lemmas.List.{get_or_past}
use Rattle.finite_maps.specs.Map.{Map, get, entries, insert, get-insert, keep, get-keep, empty, get-empty, same_map, same_key, same_key-true, same_key-refl}
use Rattle.finite_maps.specs.Numbers.{nat_order}
use Rattle.lock_modes.specs.Resource.{resource_order, resource_cmp}
use Rattle.lock_modes.specs.declared.mode.Mode.{Mode}
use Rattle.lock_modes.specs.declared.resource.Resource.{Resource}
use Rattle.lock_queues.specs.Tabulate.{get-tabulate}
use Rattle.lock_queues.specs.Locks.{fits_with}
use Rattle.lock_queues.specs.LockTable.{Holding, holding_order, Fits, look_at}
use Rattle.lock_queues.specs.Records.{Sessions, held_by, holdings_from, held_map, AllFit}
use Rattle.lock_queues.proofs.Known.{any-left, any-right, known-through}
use Rattle.lock_queues.proofs.ModesLemmas.{then-both}

modes-known : (c : ℕ) (r : Resource) (m : Map resource_order Mode) → is_some (get m r) ≡ true
    → list_any (same_key holding_order (c, r)) (map (λ (e : Resource × Mode). (c, e.0)) (entries m)) ≡ true
unfolding get entries
modes-known c r m e = known-through resource_order holding_order (λ s. (c, s)) r m.list e

abbrev no-modes : Map resource_order Mode
no-modes = empty

no-mode : (r : Resource) → is_some (get no-modes r) ≡ true → ⊥
no-mode r e = both_ways (is_some (get no-modes r)) (ap is_some (get-empty resource_order Mode r)) e

holding-known : (n c at : ℕ) (r : Resource) (sessions : Sessions) → n + c ≡ at → is_some (get (get_or sessions c empty) r) ≡ true
    → list_any (same_key holding_order (at, r)) (holdings_from n sessions) ≡ true
holding-known n c at r [] e s = absurd (no-mode r s)
holding-known n zero at r (m ∷ ms) e s =
    any-left (same_key holding_order (at, r)) (map (λ (x : Resource × Mode). (n, x.0)) (entries m)) (holdings_from (suc n) ms)
    (let here : n ≡ at = omega arith in
    subst (λ u. list_any (same_key holding_order (u, r)) (map (λ (x : Resource × Mode). (n, x.0)) (entries m)) ≡ true) here (modes-known n r m s))
holding-known n (suc c) at r (m ∷ ms) e s =
    any-right (same_key holding_order (at, r)) (map (λ (x : Resource × Mode). (n, x.0)) (entries m)) (holdings_from (suc n) ms)
    (holding-known (suc n) c at r ms (omega arith) s)

-- a look-up by session and resource is one in the map
pub get-held : (sessions : Sessions) (h : Holding) → get (held_map sessions) h ≡ held_by sessions h
get-held sessions h =
    get-tabulate holding_order (held_by sessions) (holdings_from 0 sessions) h (holding-known 0 h.0 h.0 h.1 sessions (omega arith))

pub held-empty : held_map [] ≡ empty
held-empty = same_map _ _ (λ q. get-held [] q ∙ get-empty resource_order Mode q.1 ∙ sym (get-empty holding_order Mode q))

-- one more session that holds nothing is no change
pub held-push : (sessions : Sessions) → held_map (sessions ++ empty ∷ []) ≡ held_map sessions
held-push sessions = same_map _ _ (λ q. get-held (sessions ++ empty ∷ []) q ∙ ap (λ m. get m q.1) (at sessions q.0) ∙ sym (get-held sessions q))
  where
    at : (ms : Sessions) (c : ℕ) → get_or (ms ++ empty ∷ []) c empty ≡ get_or ms c empty
    at [] zero = refl
    at [] (suc c) = refl
    at (m ∷ ms) zero = refl
    at (m ∷ ms) (suc c) = at ms c

-- a mode that is held already is no change
pub held-same : (held : Map holding_order Mode) (h : Holding) (m : Mode) → get held h ≡ Some m → insert held h m ≡ held
held-same held h m e = same_map (insert held h m) held (λ q. get-insert held h m q ∙ at q (same_key holding_order q h) refl)
  where
    at : (q : Holding) (b : Bool) → same_key holding_order q h ≡ b → cond b (Some m) (get held q) ≡ get held q
    at q true t = sym e ∙ ap (get held) (sym (same_key-true holding_order q h t))
    at q false t = refl

pub held-put : (i : ℕ) (r : Resource) (m : Mode) (sessions : Sessions) → i < length sessions
    → held_map (set sessions i (insert (get_or sessions i empty) r m)) ≡ insert (held_map sessions) (i, r) m
held-put i r m sessions lt = same_map _ _ (λ q.
    get-held (set sessions i more) q ∙ at q.0 q.1
    ∙ ap (cond (same_key holding_order q (i, r)) (Some m)) (sym (get-held sessions q)) ∙ sym (get-insert (held_map sessions) (i, r) m q))
  where
    more : Map resource_order Mode
    more = insert (get_or sessions i empty) r m

    here : (c : ℕ) (s : Resource) (b : Bool) → eq_by_cmp nat_cmp c i ≡ b
        → held_by (set sessions i more) (c, s) ≡ cond (b && eq_by_cmp resource_cmp s r) (Some m) (held_by sessions (c, s))
    here c s true e =
        let same : c ≡ i = same_key-true nat_order c i e in
        ap (λ x. held_by (set sessions i more) (x, s)) same ∙ ap (λ x. get x s) (get_or-set_same sessions i more empty lt)
        ∙ get-insert (get_or sessions i empty) r m s
        ∙ ap (λ x. cond (eq_by_cmp resource_cmp s r) (Some m) (held_by sessions (x, s))) (sym same)
    here c s false e =
        let ne : c ≢ i = (λ k. both_ways _ e (subst (λ x. same_key nat_order c x ≡ true) k (same_key-refl nat_order c))) in
        ap (λ x. get x s) (get_or-set_other sessions i c more empty ne)

    at : (c : ℕ) (s : Resource) → held_by (set sessions i more) (c, s) ≡ cond (same_key holding_order (c, s) (i, r)) (Some m) (held_by sessions (c, s))
    at c s =
        here c s (eq_by_cmp nat_cmp c i) refl
        ∙ ap (λ b. cond b (Some m) (held_by sessions (c, s))) (sym (then-both (nat_cmp c i) (resource_cmp s r)))

pub held-take : (i : ℕ) (sessions : Sessions) → i < length sessions
    → held_map (set sessions i empty) ≡ keep (λ (h : Holding). not (h.0 == i)) (held_map sessions)
held-take i sessions lt = same_map _ _ (λ q.
    get-held (set sessions i empty) q ∙ at q.0 q.1 (q.0 == i) refl
    ∙ ap (λ v. cond (not (q.0 == i)) v None) (sym (get-held sessions q)) ∙ sym (get-keep (λ (h : Holding). not (h.0 == i)) (held_map sessions) q))
  where
    at : (c : ℕ) (s : Resource) (b : Bool) → (c == i) ≡ b → held_by (set sessions i empty) (c, s) ≡ cond (not b) (held_by sessions (c, s)) None
    at c s true e =
        ap (λ x. held_by (set sessions i empty) (x, s)) (eqb-true c i e) ∙ ap (λ x. get x s) (get_or-set_same sessions i empty empty lt)
        ∙ get-empty resource_order Mode s
    at c s false e = ap (λ x. get x s) (get_or-set_other sessions i c empty empty (λ k. both_ways _ e (eq-eqb c i k)))

-- a session behind the last one has nothing to be taken
pub held-past : (i : ℕ) (sessions : Sessions) → length sessions ≤ i → held_map sessions ≡ keep (λ (h : Holding). not (h.0 == i)) (held_map sessions)
held-past i sessions le = same_map _ _ (λ q.
    get-held sessions q ∙ at q.0 q.1 (q.0 == i) refl
    ∙ ap (λ v. cond (not (q.0 == i)) v None) (sym (get-held sessions q)) ∙ sym (get-keep (λ (h : Holding). not (h.0 == i)) (held_map sessions) q))
  where
    at : (c : ℕ) (s : Resource) (b : Bool) → (c == i) ≡ b → held_by sessions (c, s) ≡ cond (not b) (held_by sessions (c, s)) None
    at c s true e =
        ap (λ x. held_by sessions (x, s)) (eqb-true c i e) ∙ ap (λ x. get x s) (get_or_past sessions i empty le) ∙ get-empty resource_order Mode s
    at c s false e = refl

-- nobody behind the last session holds anything
pub held-none : (sessions : Sessions) (i : ℕ) (r : Resource) → length sessions ≤ i → get (held_map sessions) (i, r) ≡ None
held-none sessions i r le =
    get-held sessions (i, r) ∙ ap (λ x. get x r) (get_or_past sessions i empty le) ∙ get-empty resource_order Mode r

-- ---- the test of each session is the law over all sessions

pub fits-is : (i : ℕ) (r : Resource) (m : Mode) (sessions : Sessions) → AllFit sessions i r m ↔ Fits (look_at (held_map sessions)) i r m
fits-is i r m sessions = (
  (λ f c ne. ap (fits_with m) (get-held sessions (c, r)) ∙ f c ne),
  (λ f c ne. ap (fits_with m) (sym (get-held sessions (c, r))) ∙ f c ne),
)

-- sessions behind the last one hold nothing that a mode has to fit
pub all-fit : (i : ℕ) (r : Resource) (m : Mode) (sessions : Sessions) (n : ℕ) → length sessions ≤ n
    → ((c : ℕ) → c < n → c ≢ i → fits_with m (held_by sessions (c, r)) ≡ true) → AllFit sessions i r m
all-fit i r m sessions n le f c ne = ⊎_elim (λ lt. f c lt ne) past place
  where
    place : (c < n) ⊎ (n ≤ c)
    place = grind arith

    past : n ≤ c → fits_with m (held_by sessions (c, r)) ≡ true
    past far = ap (λ x. fits_with m (get x r)) (get_or_past sessions c empty (omega arith)) ∙ ap (fits_with m) (get-empty resource_order Mode r)
