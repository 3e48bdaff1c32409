-- The tests up to a number of sessions are the rules over all, where all sessions are below it.
use Rattle.std.proofs.Common.{◌≡◌, ◌≢◌, refl, sym, ap, ◌∙◌, subst, ℕ, zero, suc, ◌+◌, ◌<◌, ◌≤◌, Bool, true, false, cond, ◌||◌, ◌==◌, List, [], ◌∷◌, ◌++◌}
use Rattle.std.proofs.Common.{length, Option, Some, None, is_some, ◌⊎◌, ⊎_elim, arith, append_assoc, append-nil, eqb-true, eq-eqb, length-append}
use Rattle.std.specs.FinMap.Entries.{find}
use Rattle.std.proofs.lemmas.Bool.{and_from, and_parts, cases_eq, false_from_ne_true, or_cases, or_left, or_right}
use Rattle.lock_modes.specs.Mode.{cover}
use Rattle.lock_modes.specs.declared.mode.Mode.{Mode}
use Rattle.lock_modes.specs.declared.resource.Resource.{Resource}
use Rattle.finite_maps.specs.Map.{get, insert, same_key, same_key-true}
use Rattle.lock_queues.specs.Locks.{Wait, Spot, Look, all_below, fits, fits_with, wanted, wanted_by, may_have, closes_ring, answered, is_ripe, first_ripe}
use Rattle.lock_queues.specs.Locks.{spots_from, waits_for, waits_now}
use Rattle.lock_queues.specs.LockTable.{Locks, Holding, holding_cmp, holding_order, Asked, ask, ask_now, AskedNow, look_in, queued, taken, Fits}
use Rattle.lock_queues.specs.Sound.{Way, EachWait, edges, IsSound}
use Rattle.lock_queues.specs.Rules.{MayHave, IsInRing, IsAnswer, IsTaken, after_now, after, IsSpot, IsRipe, NothingRipe}
use Rattle.lock_queues.specs.Laws.{IsBelow, TestsDecide}
use Rattle.lock_queues.specs.declared.answer.Answer.{Answer}
use Rattle.lock_queues.specs.declared.answer.Answer.TheVariants.{Granted, Waits, Ring}
use Rattle.lock_queues.specs.declared.answer.Taken.{Taken}
use Rattle.lock_queues.specs.declared.answer.Taken.TheVariants as at_once
use Rattle.lock_queues.proofs.HeldLemmas.{held-same}
use Rattle.lock_queues.proofs.Rings.{way-found, way-is-found}
use Rattle.lock_queues.proofs.Spots.{edge-waits}
use Rattle.lock_queues.proofs.Waiters.{waiter-reaches}

below-at : (n : ℕ) (test : ℕ → Bool) (c : ℕ) → c < n → all_below n test ≡ true → test c ≡ true
below-at zero test c lt e = absurd (omega arith)
below-at (suc n) test c lt e =
    let p = and_parts (test n) _ e in
    let at : (c ≡ n) ⊎ (c < n) = grind arith in
    ⊎_elim (λ k. ap test k ∙ p.0) (λ l. below-at n test c l p.1) at

below-true : (n : ℕ) (test : ℕ → Bool) → ((c : ℕ) → test c ≡ true) → all_below n test ≡ true
below-true zero test h = refl
below-true (suc n) test h = and_from _ _ (h n) (below-true n test h)

module _ (count : ℕ) (look : Look) (none : (c : ℕ) (r : Resource) → count ≤ c → look c r ≡ None) where
  fits-all : (i : ℕ) (r : Resource) (m : Mode) → fits count look i r m ≡ true → Fits look i r m
  fits-all i r m e c ne =
      let at : (c < count) ⊎ (count ≤ c) = grind arith in
      ⊎_elim (λ lt. ⊎_elim (λ h. absurd (ne (eqb-true c i h))) (λ h. h) (or_cases (c == i) _ (below-at count (λ c. (c == i) || fits_with m (look c r)) c lt e)))
      (λ le. ap (fits_with m) (none c r le)) at

  all-fits : (i : ℕ) (r : Resource) (m : Mode) → Fits look i r m → fits count look i r m ≡ true
  all-fits i r m f = below-true count _ (λ c. ⊎_elim (λ k. or_left (c == i) _ (eq-eqb c i k)) (λ k. or_right (c == i) _ (f c k)) (cases_eq c i))

  ripe-is : (s : Spot) → IsRipe look s → is_ripe count look s ≡ true
  ripe-is s r = and_from _ _ (all-fits s.wait.session s.wait.resource (wanted_by look s.wait) r.0) r.1

  is-ripe : (s : Spot) → is_ripe count look s ≡ true → IsRipe look s
  is-ripe s e = let p = and_parts (fits count look s.wait.session s.wait.resource (wanted_by look s.wait)) _ e in
      (fits-all s.wait.session s.wait.resource (wanted_by look s.wait) p.0, p.1)

  -- the first ripe wait, where none before it is ripe
  first-is : (waits before mid : List Wait) (w : Wait) (rest : List Wait) → before ++ (mid ++ w ∷ rest) ≡ waits
      → IsRipe look (record { before = before ++ mid; wait = w; after = rest })
      → ((t : Spot) → IsSpot waits t → IsRipe look t → length (before ++ mid) ≤ length t.before)
      → first_ripe count look (spots_from before (mid ++ w ∷ rest)) ≡ Some (record { before = before ++ mid; wait = w; after = rest })
  first-is waits before [] w rest there ripe earliest =
      let here : Spot = record { before = before; wait = w; after = rest } in
      let same : ◌≡◌ {A = Spot} (record { before = before ++ []; wait = w; after = rest }) here =
      (λ k. record { before = append-nil before k; wait = w; after = rest }) in
      ap (λ b. cond b (Some here) (first_ripe count look (spots_from (before ++ w ∷ []) rest))) (ripe-is here (subst (IsRipe look) same ripe))
      ∙ ap Some (sym same)
  first-is waits before (v ∷ mid) w rest there ripe earliest =
      let here : Spot = record { before = before; wait = v; after = mid ++ w ∷ rest } in
      let grouped : (before ++ v ∷ []) ++ mid ≡ before ++ v ∷ mid = append_assoc before (v ∷ []) mid in
      let unripe : is_ripe count look here ≡ false = false_from_ne_true _ (λ e. later (earliest here there (is-ripe here e))) in
      ap (λ b. cond b (Some here) (first_ripe count look (spots_from (before ++ v ∷ []) (mid ++ w ∷ rest)))) unripe
      ∙ first-is waits (before ++ v ∷ []) mid w rest (append_assoc before (v ∷ []) (mid ++ w ∷ rest) ∙ there)
      (subst (λ b. IsRipe look (record {
        before = b;
        wait = w;
        after =
            rest;
      })) (sym grouped) ripe) (λ t p r. subst (λ b. length b ≤ length t.before) (sym grouped) (earliest t p r))
      ∙ (λ k. Some (record { before = grouped k; wait = w; after = rest }))
    where
      later : length (before ++ v ∷ mid) ≤ length before → ⊥
      later le = absurd (omega (arith, length-append before (v ∷ mid)))

  none-first : (waits before rest : List Wait) → before ++ rest ≡ waits → ((t : Spot) → IsSpot waits t → IsRipe look t → ⊥)
      → first_ripe count look (spots_from before rest) ≡ None
  none-first waits before [] there never = refl
  none-first waits before (w ∷ rest) there never =
      let here : Spot = record { before = before; wait = w; after = rest } in
      ap (λ b. cond b (Some here) (first_ripe count look (spots_from (before
      ++ w ∷ []) rest))) (false_from_ne_true (is_ripe count look here) (λ e. never here there (is-ripe here e)))
      ∙ none-first waits (before ++ w ∷ []) rest (append_assoc before (w ∷ []) rest ∙ there) never

below-waits : (count : ℕ) (ws : List Wait) → EachWait (λ w. w.session < count) ws → (a : ℕ) → waits_now ws a ≡ true → a < count
below-waits count [] p a e = cc
below-waits count (v ∷ vs) p a e =
    ⊎_elim (λ k. subst (λ x. x < count) (eqb-true v.session a k) p.0) (λ k. below-waits count vs p.1 a k) (or_cases (v.session == a) _ e)

below-push : (count : ℕ) (ws : List Wait) (w : Wait) → EachWait (λ w. w.session < count) ws → w.session < count
    → EachWait (λ w. w.session < count) (ws ++ w ∷ [])
below-push count [] w p lt = (lt, tt)
below-push count (v ∷ vs) w p lt = (p.0, below-push count vs w p.1 lt)

module _ (count : ℕ) (l : Locks) (below : IsBelow count l) where
  had : (i : ℕ) (r : Resource) (m : Mode) → MayHave l i r m → may_have count (look_in l) l.waits i (look_in l i r) r m ≡ true
  had i r m h = and_from _ _ (all-fits count (look_in l) below.holders i r (wanted (look_in l i r) m) h.0) h.1

  had-not : (i : ℕ) (r : Resource) (m : Mode) → ¬ (MayHave l i r m) → may_have count (look_in l) l.waits i (look_in l i r) r m ≡ false
  had-not i r m never = false_from_ne_true _
      (λ e. let p = and_parts (fits count (look_in l) i r (wanted (look_in l i r) m)) _ e in
      never (fits-all count (look_in l) below.holders i r (wanted (look_in l i r) m) p.0, p.1))

  ring-is : (i : ℕ) (r : Resource) (m : Mode) → i < count → IsInRing (queued l i r m) i → closes_ring count (look_in l) (queued l i r m).waits i ≡ true
  ring-is i r m lt v =
      way-is-found (waits_for (look_in l) (queued l i r m).waits) count
      (λ a b e. below-waits count (queued l i r m).waits (below-push count l.waits (record { session = i; resource = r; mode = m }) below.waiters lt) a
      (edge-waits (look_in l) (queued l i r m).waits a b e)) i i v

  ring-not : (i : ℕ) (r : Resource) (m : Mode) → ¬ (IsInRing (queued l i r m) i) → closes_ring count (look_in l) (queued l i r m).waits i ≡ false
  ring-not i r m never = false_from_ne_true _ (λ e. never (way-found (waits_for (look_in l) (queued l i r m).waits) count i i e))

  abbrev step : ℕ → Resource → Mode → Bool → Bool → Asked
  step i r m may closes = elim (answered may closes) [
    | Granted ↦ record { answer = Granted; locks = taken l i r m }
    | Waits ↦ record { answer = Waits; locks = queued l i r m }
    | Ring ↦ record { answer = Ring; locks = l }
  ]

  asked-is : (i : ℕ) (r : Resource) (m : Mode) (a : Answer) → i < count → IsAnswer l i r m a → ask count l i r m
      ≡ record { answer = a; locks = after l i r m a }
  asked-is i r m Granted lt h = ap (λ b. step i r m b (closes_ring count (look_in l) (queued l i r m).waits i)) (had i r m h)
  asked-is i r m Ring lt h = (λ k. step i r m (had-not i r m h.0 k) (ring-is i r m lt h.1 k))
  asked-is i r m Waits lt h = (λ k. step i r m (had-not i r m h.0 k) (ring-not i r m h.1 k))

  abbrev step_now : ℕ → Resource → Mode → Bool → AskedNow
  step_now i r m may = elim may [ true ↦ record { answer = at_once.Granted; locks = taken l i r m } | false ↦ record { answer = at_once.Refused; locks = l } ]

  taken-is : (i : ℕ) (r : Resource) (m : Mode) (a : Taken) → IsTaken l i r m a → ask_now count l i r m ≡ record { answer = a; locks = after_now l i r m a }
  taken-is i r m at_once.Granted h = ap (step_now i r m) (had i r m h)
  taken-is i r m at_once.Refused h = ap (step_now i r m) (had-not i r m h)

  pub tests-decide : TestsDecide count l
  tests-decide = record {
    asked = asked-is;
    taken = taken-is;
    next = λ s n. ap (λ ws. first_ripe count (look_in l) (spots_from [] ws)) (sym n.there)
        ∙ first-is count (look_in l) below.holders l.waits [] s.before s.wait s.after n.there n.ripe n.earliest;
    none = λ never. none-first count (look_in l) below.holders l.waits [] l.waits refl never;
  }

-- ---- a number above all sessions

-- no entry is of a session from n on
abbrev Low : ℕ → List (Holding × Mode) → Type 0
Low n [] = Unit {0}
Low n (e ∷ es) = (e.0.0 < n) × Low n es

low-more : (n k : ℕ) (es : List (Holding × Mode)) → Low n es → Low (n + k) es
low-more n k [] p = tt
low-more n k (e ∷ es) p = (omega (arith, p.0), low-more n k es p.1)

low-of : (es : List (Holding × Mode)) → (n : ℕ) × Low n es
low-of [] = (0, tt)
low-of (e ∷ es) = let r = low-of es in (r.0 + suc e.0.0, (omega arith, low-more r.0 (suc e.0.0) es r.1))

low-none : (n : ℕ) (es : List (Holding × Mode)) → Low n es → (c : ℕ) (r : Resource) → n ≤ c → find holding_cmp (c, r) es ≡ None
low-none n [] p c r le = refl
low-none n (e ∷ es) p c r le = at (same_key holding_order (c, r) e.0) refl (low-none n es p.1 c r le)
  where
    at : (b : Bool) → same_key holding_order (c, r) e.0 ≡ b → find holding_cmp (c, r) es ≡ None → cond b (Some e.1) (find holding_cmp (c, r) es) ≡ None
    at true s rest = let same : c ≡ e.0.0 = ap (λ (h : Holding). h.0) (same_key-true holding_order (c, r) e.0 s) in let here = p.0 in absurd (omega arith)
    at false s rest = rest

wait-more : (n k : ℕ) (ws : List Wait) → EachWait (λ w. w.session < n) ws → EachWait (λ w. w.session < n + k) ws
wait-more n k [] p = tt
wait-more n k (w ∷ ws) p = (omega (arith, p.0), wait-more n k ws p.1)

wait-low : (ws : List Wait) → (n : ℕ) × EachWait (λ w. w.session < n) ws
wait-low [] = (0, tt)
wait-low (w ∷ ws) = let r = wait-low ws in (r.0 + suc w.session, (omega arith, wait-more r.0 (suc w.session) ws r.1))

wait-swap : (n k : ℕ) (ws : List Wait) → EachWait (λ w. w.session < n) ws → EachWait (λ w. w.session < k + n) ws
wait-swap n k [] p = tt
wait-swap n k (w ∷ ws) p = (omega (arith, p.0), wait-swap n k ws p.1)

pub number-above : (l : Locks) → (n : ℕ) × IsBelow n l
unfolding get
number-above l =
    let h = low-of l.held.list in
    let w = wait-low l.waits in
    (h.0 + w.0, record { holders = low-none (h.0 + w.0) l.held.list (low-more h.0 w.0 l.held.list h.1); waiters = wait-swap w.0 h.0 l.waits w.1 })

-- ---- the laws that need it

pub waiters-reach : (l : Locks) → IsSound l → NothingRipe l → (a : ℕ) → waits_now l.waits a ≡ true → (b : ℕ) × Way (edges l) a b × (waits_now l.waits b ≡ false)
waiters-reach l s never a h =
    let n = number-above l in
    waiter-reaches (look_in l) l.waits n.0 s.distinct s.no_ring ((tests-decide n.0 l n.1).none never) n.1.waiters a h

-- a mode that is covered is had
pub covered-had : (l : Locks) (i : ℕ) (r : Resource) (m held : Mode) → IsSound l → look_in l i r ≡ Some held → cover held m ≡ held → MayHave l i r m
    × (taken l i r m ≡ l)
covered-had l i r m held s e k = (((λ c ne. fit c ne (look_in l c r) refl), or_left _ _ (ap is_some e)), same)
  where
    mode : wanted (look_in l i r) m ≡ held
    mode = ap (λ o. wanted o m) e ∙ k

    fit : (c : ℕ) → c ≢ i → (o : Option Mode) → look_in l c r ≡ o → fits_with (wanted (look_in l i r) m) (look_in l c r) ≡ true
    fit c ne None n = ap (fits_with (wanted (look_in l i r) m)) n
    fit c ne (Some other) n = (λ j. fits_with (mode j) (n j)) ∙ s.together i c r held other (λ q. ne (sym q)) e n

    same : taken l i r m ≡ l
    same = λ j. record { held = (ap (insert l.held (i, r)) mode ∙ held-same l.held (i, r) held e) j; waits = l.waits }
