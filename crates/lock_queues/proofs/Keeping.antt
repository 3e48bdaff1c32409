-- What a request, a grant and letting go do to a sound table leaves it sound.
use Rattle.std.proofs.Common.{◌≡◌, ◌≢◌, refl, sym, ap, ◌∙◌, subst, ℕ, zero, suc, ◌<◌, ◌≤◌, length, get_or, nat_lt, arith, Bool, true, false, cond, not}
use Rattle.std.proofs.Common.{◌==◌, List, [], ◌∷◌, ◌++◌, filter, Option, Some, None, ⊎_elim, append_assoc, append-nil, eqb-true, eq-eqb}
use Rattle.std.specs.List.{list_any, find, remove, position, position_or_len}
use Rattle.std.proofs.lemmas.List.Quantifiers.{position-Some}
use Rattle.std.proofs.lemmas.List.Folds.{list_any_none}
use Rattle.std.proofs.lemmas.List.Sums.{fails_before_first}
use Rattle.std.proofs.lemmas.Bool.{ltb-false, both_ways, cases_Bool, or_parts}
use Rattle.lock_modes.specs.Mode.{compatible}
use Rattle.lock_modes.proofs.ModeLaws.{compatible-comm}
use Rattle.lock_modes.specs.declared.mode.Mode.{Mode}
use Rattle.lock_modes.specs.declared.resource.Resource.{Resource}
use Rattle.finite_maps.specs.Map.{Map, get, get-empty, insert, get-insert, keep, get-keep, same_key, same_key-true}
use Rattle.lock_queues.specs.Locks.{Wait, Spot, Look, fits_with, wanted, wanted_by, waits_now, waits_for}
use Rattle.lock_queues.specs.LockTable.{Locks, Holding, holding_order, no_locks, look_at, look_in, queued, taken, let_go, grant, Fits}
use Rattle.lock_queues.specs.Sound.{NoRing, HeldTogether, EachWait, Distinct, edges, IsSound}
use Rattle.lock_queues.specs.Rules.{MayHave, IsInRing, IsAnswer, IsTaken, after_now, after, IsSpot, IsRipe, IsNext}
use Rattle.lock_queues.specs.declared.answer.Answer.{Answer}
use Rattle.lock_queues.specs.declared.answer.Answer.TheVariants.{Granted, Waits, Ring}
use Rattle.lock_queues.specs.declared.answer.Taken.{Taken}
use Rattle.lock_queues.specs.declared.answer.Taken.TheVariants as at_once
use Rattle.lock_queues.proofs.WaitLists.{Not, distinct-push}
use Rattle.lock_queues.proofs.Spots.{same-spot}
use Rattle.lock_queues.proofs.Rings.{no-ring-past, no-way-from, no-edge-from, edge-put, edge-off}

-- ---- waits

-- who does not wait has no wait
pub none-waits : (i : ℕ) (ws : List Wait) → waits_now ws i ≡ false → EachWait (Not i) ws
none-waits i [] e = tt
none-waits i (w ∷ ws) e = let p = or_parts (w.session == i) _ e in ((λ k. both_ways _ p.0 (eq-eqb w.session i k)), none-waits i ws p.1)

-- the waits of the others
abbrev pub others : ℕ → List Wait → List Wait
others i ws = filter (λ (w : Wait). not (w.session == i)) ws

each-others : (P : Wait → Type 0) (i : ℕ) (ws : List Wait) → EachWait P ws → EachWait P (others i ws)
each-others P i [] p = tt
each-others P i (w ∷ ws) p =
    elim (w.session == i) as (λ b. EachWait P (cond (not b) (w ∷ others i ws) (others i ws))) [
      | true ↦ each-others P i ws p.1
      | false ↦ (
        p.0,
        each-others P i ws p.1,
      )
    ]

distinct-others : (i : ℕ) (ws : List Wait) → Distinct ws → Distinct (others i ws)
distinct-others i [] d = tt
distinct-others i (w ∷ ws) d =
    elim (w.session == i) as (λ b. Distinct (cond (not b) (w ∷ others i ws) (others i ws)))
    [ true ↦ distinct-others i ws d.1 | false ↦ (each-others (Not w.session) i ws d.0, distinct-others i ws d.1) ]

not-others : (i : ℕ) (ws : List Wait) → EachWait (Not i) (others i ws)
not-others i [] = tt
not-others i (w ∷ ws) = at (w.session == i) refl (not-others i ws)
  where
    at : (b : Bool) → (w.session == i) ≡ b → EachWait (Not i) (others i ws) → EachWait (Not i) (cond (not b) (w ∷ others i ws) (others i ws))
    at true e rest = rest
    at false e rest = ((λ k. both_ways _ e (eq-eqb w.session i k)), rest)

all-others : (i : ℕ) (ws : List Wait) → EachWait (Not i) ws → others i ws ≡ ws
all-others i [] n = refl
all-others i (w ∷ ws) n = at (w.session == i) refl (all-others i ws n.1)
  where
    at : (b : Bool) → (w.session == i) ≡ b → others i ws ≡ ws → cond (not b) (w ∷ others i ws) (others i ws) ≡ w ∷ ws
    at true e rest = absurd (n.0 (eqb-true w.session i e))
    at false e rest = ap (λ ws. w ∷ ws) rest

-- where no session waits twice, without the wait of one there are those before it and after it
pub others-spot : (before : List Wait) (w : Wait) (after : List Wait) → Distinct (before ++ w ∷ after) → others w.session (before ++ w ∷ after) ≡ before
    ++ after
others-spot [] w after d = at (w.session == w.session) (eq-eqb w.session w.session refl) (all-others w.session after d.0)
  where
    at : (b : Bool) → b ≡ true → others w.session after ≡ after → cond (not b) (w ∷ others w.session after) (others w.session after) ≡ after
    at true e rest = rest
    at false e rest = cc
others-spot (v ∷ before) w after d = at (v.session == w.session) refl (others-spot before w after d.1)
  where
    one-of : (us vs : List Wait) → EachWait (Not v.session) (us ++ w ∷ vs) → w.session ≢ v.session
    one-of [] vs p = p.0
    one-of (u ∷ us) vs p = one-of us vs p.1

    at : (b : Bool) → (v.session == w.session) ≡ b → others w.session (before ++ w ∷ after) ≡ before ++ after
        → cond (not b) (v ∷ others w.session (before ++ w ∷ after)) (others w.session (before ++ w ∷ after)) ≡ v ∷ (before ++ after)
    at true e rest = absurd (one-of before after d.0 (sym (eqb-true v.session w.session e)))
    at false e rest = ap (λ ws. v ∷ ws) rest

-- and its wait is found
pub find-spot : (before : List Wait) (w : Wait) (after : List Wait) → Distinct (before ++ w ∷ after)
    → find (λ (v : Wait). v.session == w.session) (before ++ w ∷ after) ≡ Some w
find-spot [] w after d = ap (λ b. cond b (Some w) (find (λ (v : Wait). v.session == w.session) after)) (eq-eqb w.session w.session refl)
find-spot (v ∷ before) w after d = at (v.session == w.session) refl (find-spot before w after d.1)
  where
    one-of : (us vs : List Wait) → EachWait (Not v.session) (us ++ w ∷ vs) → w.session ≢ v.session
    one-of [] vs p = p.0
    one-of (u ∷ us) vs p = one-of us vs p.1

    at : (b : Bool) → (v.session == w.session) ≡ b → find (λ (v : Wait). v.session == w.session) (before ++ w ∷ after) ≡ Some w
        → cond b (Some v) (find (λ (v : Wait). v.session == w.session) (before ++ w ∷ after)) ≡ Some w
    at true e rest = absurd (one-of before after d.0 (sym (eqb-true v.session w.session e)))
    at false e rest = rest

-- what is left without the wait at a place
pub remove-others : (i : ℕ) (ws : List Wait) (k : ℕ) (d : Wait) → k < length ws → Distinct ws → (get_or ws k d).session ≡ i → remove ws k ≡ others i ws
remove-others i [] k d lt s e = absurd (omega arith)
remove-others i (w ∷ ws) zero d lt s e = at (w.session == i) (eq-eqb w.session i e) (sym (all-others i ws (subst (λ j. EachWait (Not j) ws) e s.0)))
  where
    at : (b : Bool) → b ≡ true → ws ≡ others i ws → ws ≡ cond (not b) (w ∷ others i ws) (others i ws)
    at true t rest = rest
    at false t rest = cc
remove-others i (w ∷ ws) (suc k) d lt s e = at (w.session == i) refl (remove-others i ws k d (omega arith) s.1 e)
  where
    one-of : (us : List Wait) (n : ℕ) → n < length us → EachWait (Not w.session) us → (get_or us n d).session ≢ w.session
    one-of [] n l p = absurd (omega arith)
    one-of (u ∷ us) zero l p = p.0
    one-of (u ∷ us) (suc n) l p = one-of us n (omega arith) p.1

    at : (b : Bool) → (w.session == i) ≡ b → remove ws k ≡ others i ws → w ∷ remove ws k ≡ cond (not b) (w ∷ others i ws) (others i ws)
    at true t rest = absurd (one-of ws k (omega arith) s.0 (e ∙ sym (eqb-true w.session i t)))
    at false t rest = ap (λ ws. w ∷ ws) rest

-- where none is found, nothing is left out
pub absent-others : (i : ℕ) (ws : List Wait) → list_any (λ (w : Wait). w.session == i) ws ≡ false → ws ≡ others i ws
absent-others i ws e = sym (all-others i ws (none-waits i ws e))

-- a place that is found is of the session, and where none is, it does not wait
pub found-place : (i : ℕ) (ws : List Wait) (k : ℕ) (d : Wait) → position (λ (w : Wait). w.session == i) ws ≡ Some k → (k < length ws)
    × ((get_or ws k d).session ≡ i)
found-place i ws k d e = let r = position-Some (λ (w : Wait). w.session == i) ws k d e in (r.0, eqb-true _ i r.1)

pub absent-place : (p : Wait → Bool) (ws : List Wait) → position p ws ≡ None → list_any p ws ≡ false
absent-place p ws e =
    list_any_none p ws (λ k d lt. let past = at (nat_lt (position_or_len p ws) (length ws)) refl e in fails_before_first p ws k d (omega arith))
  where
    at : (b : Bool) → nat_lt (position_or_len p ws) (length ws) ≡ b → ◌≡◌ {A = Option ℕ} (cond b (Some (position_or_len p ws)) None) None
        → length ws ≤ position_or_len p ws
    at true q h = cc
    at false q h = ltb-false _ _ q

-- ---- edges

-- the waits of one session make no edge between two others
edge-others : (look : Look) (i a b : ℕ) → a ≢ i → b ≢ i → (us vs : List Wait) → waits_for look (us ++ others i vs) a b ≡ waits_for look (us ++ vs) a b
edge-others look i a b na nb us [] = refl
edge-others look i a b na nb us (v ∷ vs) = at (v.session == i) refl (edge-others look i a b na nb us vs) (edge-others look i a b na nb (us ++ v ∷ []) vs)
  where
    apart : (c : ℕ) → c ≢ i → v.session ≡ i → (v.session == c) ≡ false
    apart c ne e = ⊎_elim (λ h. absurd (ne (sym (eqb-true v.session c h) ∙ e))) (λ h. h) (cases_Bool (v.session == c))

    at : (t : Bool) → (v.session == i) ≡ t → waits_for look (us ++ others i vs) a b ≡ waits_for look (us ++ vs) a b
        → waits_for look ((us ++ v ∷ []) ++ others i vs) a b ≡ waits_for look ((us ++ v ∷ []) ++ vs) a b
        → waits_for look (us ++ cond (not t) (v ∷ others i vs) (others i vs)) a b ≡ waits_for look (us ++ v ∷ vs) a b
    at true e here past = let same : v.session ≡ i = eqb-true v.session i e in here ∙ sym (edge-put look a b v (apart a na same) (apart b nb same) us vs)
    at false e here past = sym (ap (λ ws. waits_for look ws a b) (append_assoc us (v ∷ []) (others i vs))) ∙ past
        ∙ ap (λ ws. waits_for look ws a b) (append_assoc us (v ∷ []) vs)

-- a ring comes by no change that touches one session alone, which does not wait
no-ring-with : (old new : Look) (was now : List Wait) (i : ℕ) → ((c : ℕ) (r : Resource) → c ≢ i → new c r ≡ old c r) → EachWait (Not i) now
    → ((a b : ℕ) → a ≢ i → b ≢ i → waits_for old now a b ≡ waits_for old was a b) → NoRing (waits_for old was) → NoRing (waits_for new now)
no-ring-with old new was now i off free same none =
    no-ring-past (waits_for old was) (waits_for new now) i
    (λ a b na nb e. sym (same a b na nb) ∙ (sym (edge-off old new i a b off nb now free) ∙ e))
    (no-way-from (waits_for new now) i i (λ b. no-edge-from new i b now free)) none

-- ---- held modes

module _ (held : Map holding_order Mode) (i : ℕ) (r : Resource) (m : Mode) where
  look-other : (c : ℕ) (q : Resource) → c ≢ i → look_at (insert held (i, r) m) c q ≡ look_at held c q
  look-other c q ne = get-insert held (i, r) m (c, q) ∙ at (same_key holding_order (c, q) (i, r)) refl
    where
      at : (b : Bool) → same_key holding_order (c, q) (i, r) ≡ b → cond b (Some m) (get held (c, q)) ≡ get held (c, q)
      at true e = absurd (ne (ap (λ (h : Holding). h.0) (same_key-true holding_order (c, q) (i, r) e)))
      at false e = refl

  -- a mode that fits keeps modes of different sessions compatible
  together-insert : HeldTogether (look_at held) → Fits (look_at held) i r m → HeldTogether (look_at (insert held (i, r) m))
  together-insert t f c d q x y ne p e =
      at (same_key holding_order (c, q) (i, r)) refl (same_key holding_order (d, q) (i, r)) refl (sym (get-insert held (i, r) m (c, q))
      ∙ p) (sym (get-insert held (i, r) m (d, q)) ∙ e)
    where
      fits-other : (k : ℕ) (z : Mode) → k ≢ i → get held (k, r) ≡ Some z → compatible m z ≡ true
      fits-other k z nk h = subst (λ o. fits_with m o ≡ true) h (f k nk)

      at : (a : Bool) → same_key holding_order (c, q) (i, r) ≡ a → (b : Bool) → same_key holding_order (d, q) (i, r) ≡ b
          → cond a (Some m) (get held (c, q)) ≡ Some x → cond b (Some m) (get held (d, q)) ≡ Some y → compatible x y ≡ true
      at true ka true kb g h =
          absurd (ne (ap (λ (h : Holding). h.0) (same_key-true holding_order (c, q) (i, r) ka ∙ sym (same_key-true holding_order (d, q) (i, r) kb))))
      at true ka false kb g h =
          let here = same_key-true holding_order (c, q) (i, r) ka in
          let ci : c ≡ i = ap (λ (h : Holding). h.0) here in
          let qr : q ≡ r = ap (λ (h : Holding). h.1) here in
          let mx : m ≡ x = cc in
          subst (λ z. compatible z y ≡ true) mx (fits-other d y (λ k. ne (ci ∙ sym k)) (subst (λ s. get held (d, s) ≡ Some y) qr h))
      at false ka true kb g h =
          let here = same_key-true holding_order (d, q) (i, r) kb in
          let di : d ≡ i = ap (λ (h : Holding). h.0) here in
          let qr : q ≡ r = ap (λ (h : Holding). h.1) here in
          let my : m ≡ y = cc in
          compatible-comm x y ∙ subst (λ z. compatible z x ≡ true) my (fits-other c x (λ k. ne (k ∙ sym di)) (subst (λ s. get held (c, s) ≡ Some x) qr g))
      at false ka false kb g h = t c d q x y ne g h

look-kept : (held : Map holding_order Mode) (i c : ℕ) (q : Resource) → c ≢ i → look_at (keep (λ (h : Holding). not (h.0 == i)) held) c q ≡ look_at held c q
look-kept held i c q ne = get-keep (λ (h : Holding). not (h.0 == i)) held (c, q)
    ∙ ap (λ b. cond (not b) (get held (c, q)) None) (⊎_elim (λ h. absurd (ne (eqb-true c i h))) (λ h. h) (cases_Bool (c == i)))

together-keep : (held : Map holding_order Mode) (i : ℕ) → HeldTogether (look_at held) → HeldTogether (look_at (keep (λ (h : Holding). not (h.0 == i)) held))
together-keep held i t c d q x y ne p e = t c d q x y ne (was c x p) (was d y e)
  where
    was : (k : ℕ) (z : Mode) → look_at (keep (λ (h : Holding). not (h.0 == i)) held) k q ≡ Some z → look_at held k q ≡ Some z
    was k z h = at (not (k == i)) (sym (get-keep (λ (h : Holding). not (h.0 == i)) held (k, q)) ∙ h)
      where
        at : (b : Bool) → cond b (get held (k, q)) None ≡ Some z → get held (k, q) ≡ Some z
        at true g = g
        at false g = cc

-- ---- the laws

pub empty-sound : IsSound no_locks
empty-sound = record {
  together = λ c d r m n ne p e. let none : None ≡ Some m = sym (get-empty holding_order Mode (c, r)) ∙ p in cc;
  distinct = tt;
  no_ring = λ c v. no-way-from (edges no_locks) c c (λ b. refl) v;
}

pub taken-sound : (l : Locks) (i : ℕ) (r : Resource) (m : Mode) → IsSound l → waits_now l.waits i ≡ false → MayHave l i r m → IsSound (taken l i r m)
taken-sound l i r m s free had = record {
  together = together-insert l.held i r (wanted (look_in l i r) m) s.together had.0;
  distinct = s.distinct;
  no_ring = no-ring-with (look_in l) (look_in (taken l i r m)) l.waits l.waits i (look-other l.held i r (wanted (look_in l i r) m))
      (none-waits i l.waits free) (λ a b na nb. refl) s.no_ring;
}

pub queued-sound : (l : Locks) (i : ℕ) (r : Resource) (m : Mode) → IsSound l → waits_now l.waits i ≡ false → ¬ (IsInRing (queued l i r m) i)
    → IsSound (queued l i r m)
queued-sound l i r m s free none = record {
  together = s.together;
  distinct = distinct-push l.waits v s.distinct (none-waits i l.waits free);
  no_ring = no-ring-past (edges l) (edges (queued l i r m)) i (λ a b na nb e. sym (same a b na nb) ∙ e) none s.no_ring;
}
  where
    v : Wait
    v = record { session = i; resource = r; mode = m }

    apart : (c : ℕ) → c ≢ i → (v.session == c) ≡ false
    apart c ne = ⊎_elim (λ h. absurd (ne (sym (eqb-true v.session c h)))) (λ h. h) (cases_Bool (v.session == c))

    same : (a b : ℕ) → a ≢ i → b ≢ i → waits_for (look_in l) (l.waits ++ v ∷ []) a b ≡ waits_for (look_in l) l.waits a b
    same a b na nb = edge-put (look_in l) a b v (apart a na) (apart b nb) l.waits [] ∙ ap (λ ws. waits_for (look_in l) ws a b) (append-nil l.waits)

-- what is held stays what it was, and the table sound
pub kept-sound : (l : Locks) (held : Map holding_order Mode) → held ≡ l.held → IsSound l → IsSound (record { held = held; waits = l.waits })
kept-sound l held kept sound = subst IsSound (λ k. record { held = sym kept k; waits = l.waits }) sound

pub ask-sound : (l : Locks) (i : ℕ) (r : Resource) (m : Mode) (a : Answer) → IsSound l → waits_now l.waits i ≡ false → IsAnswer l i r m a
    → IsSound (after l i r m a)
ask-sound l i r m Granted s free is = taken-sound l i r m s free is
ask-sound l i r m Ring s free is = s
ask-sound l i r m Waits s free is = queued-sound l i r m s free is.1

pub ask_now-sound : (l : Locks) (i : ℕ) (r : Resource) (m : Mode) (a : Taken) → IsSound l → waits_now l.waits i ≡ false → IsTaken l i r m a
    → IsSound (after_now l i r m a)
ask_now-sound l i r m at_once.Granted s free is = taken-sound l i r m s free is
ask_now-sound l i r m at_once.Refused s free is = s

-- who does not wait does not wait behind a request that refuses to
pub waits-no-more : (l : Locks) (i : ℕ) (r : Resource) (m : Mode) (a : Taken) → waits_now l.waits i ≡ false
    → waits_now (after_now l i r m a).waits i ≡ false
waits-no-more l i r m at_once.Granted free = free
waits-no-more l i r m at_once.Refused free = free

pub let_go-sound : (l : Locks) (i : ℕ) → IsSound l → IsSound (let_go l i)
let_go-sound l i s = record {
  together = together-keep l.held i s.together;
  distinct = distinct-others i l.waits s.distinct;
  no_ring = no-ring-with (look_in l) (look_in (let_go l i)) l.waits (others i l.waits) i (look-kept l.held i) (not-others i l.waits)
      (λ a b na nb. edge-others (look_in l) i a b na nb [] l.waits) s.no_ring;
}

-- a wait that is ripe is granted, by the session that it is of
pub granted-sound : (l : Locks) (s : Spot) → IsSound l → IsSpot l.waits s → IsRipe (look_in l) s
    → IsSound (record { held = insert l.held (s.wait.session, s.wait.resource) (wanted_by (look_in l) s.wait); waits = others s.wait.session l.waits })
granted-sound l s sound there ripe = record {
  together = together-insert l.held i s.wait.resource (wanted_by (look_in l) s.wait) sound.together ripe.0;
  distinct = distinct-others i l.waits sound.distinct;
  no_ring = no-ring-with (look_in l) (look_at (insert l.held (
    i,
    s.wait.resource,
  ) (wanted_by (look_in l) s.wait))) l.waits (others i l.waits) i (look-other l.held i s.wait.resource (wanted_by (look_in l) s.wait))
      (not-others i l.waits)
      (λ a b na nb. edge-others (look_in l) i a b na nb [] l.waits) sound.no_ring;
}
  where
    i : ℕ
    i = s.wait.session

-- which is what the grant is
pub granted-is : (l : Locks) (s : Spot) → Distinct l.waits → IsSpot l.waits s
    → ◌≡◌ {A = Locks} (record {
      held = insert l.held (s.wait.session, s.wait.resource) (wanted_by (look_in l) s.wait);
      waits =
          others s.wait.session l.waits;
    }) (grant l s)
granted-is l s d there =
    let e : others s.wait.session l.waits ≡ s.before ++ s.after = sym (ap (others s.wait.session) there)
    ∙ others-spot s.before s.wait s.after (subst Distinct (sym there) d) in
    λ k. record { held = insert l.held (s.wait.session, s.wait.resource) (wanted_by (look_in l) s.wait); waits = e k }

pub grant-sound : (l : Locks) (s : Spot) → IsSound l → IsNext l s → IsSound (grant l s)
grant-sound l s sound next = subst IsSound (granted-is l s sound.distinct next.there) (granted-sound l s sound next.there next.ripe)

pub found-is : (l : Locks) (s : Spot) → Distinct l.waits → IsSpot l.waits s → find (λ (v : Wait). v.session == s.wait.session) l.waits ≡ Some s.wait
found-is l s d there = sym (ap (find (λ (v : Wait). v.session == s.wait.session)) there) ∙ find-spot s.before s.wait s.after (subst Distinct (sym there) d)

-- one wait is the next
next-one : (l : Locks) (s t : Spot) → IsNext l s → IsNext l t → s ≡ t
next-one l s t p q =
    let a : length s.before ≤ length t.before = p.earliest t q.there q.ripe in
    let b : length t.before ≤ length s.before = q.earliest s p.there p.ripe in
    same-spot l.waits s t p.there q.there (omega arith)

-- what is granted to the session that is found is granted to the next wait
pub granted-next : (l : Locks) (i : ℕ) (w : Wait) (s t : Spot) → IsSound l → IsNext l s → s.wait.session ≡ i → IsNext l t → Some w
    ≡ find (λ (v : Wait). v.session == i) l.waits
    → ◌≡◌ {A = Locks} (record { held = insert l.held (i, w.resource) (wanted_by (look_in l) w); waits = others i l.waits }) (grant l t)
granted-next l i w s t sound next same other found =
    let first : s ≡ t = next-one l s t next other in
    let here : t.wait.session ≡ i = subst (λ (u : Spot). u.wait.session ≡ i) first same in
    let some : Some t.wait ≡ Some w = sym (found-is l t sound.distinct other.there) ∙ ap (λ j. find (λ (v : Wait). v.session == j) l.waits) here ∙ sym found in
    let wait : w ≡ t.wait = cc in
    (λ k. record { held = insert l.held (sym here k, (wait k).resource) (wanted_by (look_in l) (wait k)); waits = others (sym here k) l.waits })
    ∙ granted-is l t sound.distinct other.there

-- the session of the next wait has one
pub next-found : (l : Locks) (i : ℕ) (s : Spot) → IsSound l → IsNext l s → s.wait.session ≡ i → None ≡ find (λ (v : Wait). v.session == i) l.waits → ⊥
next-found l i s sound next same none =
    let e : None ≡ Some s.wait = none ∙ sym (ap (λ j. find (λ (v : Wait). v.session == j) l.waits) same) ∙ found-is l s sound.distinct next.there in cc
