-- Rings: the test finds each, and what does not touch a session leaves the ways past it.
use Rattle.std.proofs.Common.{◌≡◌, ◌≢◌, refl, sym, ap, ◌∙◌, subst, ℕ, zero, suc, ◌<◌, Bool, true, false, cond, not, ◌&&◌, ◌||◌, ◌==◌, List, [], ◌∷◌, ◌++◌}
use Rattle.std.proofs.Common.{filter, is_some, ◌⊎◌, inl, inr, ⊎_elim, arith, append_assoc, append-nil, eqb-true}
use Rattle.std.specs.List.{list_any}
use Rattle.std.proofs.lemmas.Bool.{and_from, and_parts, both_ways, cases_Bool, cases_eq, or_cases, or_left, or_right}
use Rattle.lock_queues.specs.Locks.{Wait, Spot, Look, fits_with, wanted, wanted_by, converts, ahead, spots_from, holds_up, waits_for, way_below}
use Rattle.lock_modes.specs.Resource.{same_resource}
use Rattle.lock_queues.specs.Sound.{Way, one, more, NoRing, EachWait}
use Rattle.lock_modes.specs.declared.resource.Resource.{Resource}
use Rattle.lock_queues.proofs.Ahead.{any-append}

pub way-join : (edge : ℕ → ℕ → Bool) (a c b : ℕ) → Way edge a c → Way edge c b → Way edge a b
way-join edge a c b (one e) v = more e v
way-join edge a c b (more e u) v = more e (way-join edge _ c b u v)

-- what the test finds is there
pub way-found : (edge : ℕ → ℕ → Bool) (n a b : ℕ) → way_below edge n a b ≡ true → Way edge a b
way-found edge zero a b e = one e
way-found edge (suc n) a b e =
    ⊎_elim (λ h. way-found edge n a b h) (λ h. let p = and_parts (way_below edge n a n) _ h in
    way-join edge a n b (way-found edge n a n p.0) (way-found edge n n b p.1)) (or_cases (way_below edge n a b) _ e)

-- ways that meet below n join
pub way-meets : (edge : ℕ → ℕ → Bool) (n a c b : ℕ) → c < n → way_below edge n a c ≡ true → way_below edge n c b ≡ true → way_below edge n a b ≡ true
way-meets edge zero a c b lt p q = absurd (omega arith)
way-meets edge (suc n) a c b lt p q =
    let up = or_cases (way_below edge n a c) _ p in
    let uq = or_cases (way_below edge n c b) _ q in
    let cases : (c ≡ n) ⊎ (c < n) = grind arith in
    ⊎_elim
    (λ k.
    let to : way_below edge n a n ≡ true = ⊎_elim (λ h. sym (ap (way_below edge n a) k) ∙ h) (λ h. (and_parts (way_below edge n a n) _ h).0) up in
    let from : way_below edge n n b ≡ true = ⊎_elim (λ h. sym (ap (λ x. way_below edge n x b) k) ∙ h) (λ h. (and_parts (way_below edge n c n) _ h).1) uq in
    or_right (way_below edge n a b) _ (and_from _ _ to from))
    (λ l. ⊎_elim
    (λ h. ⊎_elim (λ g. or_left _ _ (way-meets edge n a c b l h g))
    (λ g. let r = and_parts (way_below edge n c n) _ g in or_right (way_below edge n a b) _ (and_from _ _ (way-meets edge n a c n l h r.0) r.1)) uq)
    (λ h. let r = and_parts (way_below edge n a n) _ h in
    ⊎_elim (λ g. or_right (way_below edge n a b) _ (and_from _ _ r.0 (way-meets edge n n c b l r.1 g)))
    (λ g. or_right (way_below edge n a b) _ (and_from _ _ r.0 (and_parts (way_below edge n c n) _ g).1)) uq) up)
    cases

pub edge-found : (edge : ℕ → ℕ → Bool) (n a b : ℕ) → edge a b ≡ true → way_below edge n a b ≡ true
edge-found edge zero a b e = e
edge-found edge (suc n) a b e = or_left _ _ (edge-found edge n a b e)

-- each way is found, where whoever has an edge lies below n
pub way-is-found : (edge : ℕ → ℕ → Bool) (n : ℕ) → ((a b : ℕ) → edge a b ≡ true → a < n) → (a b : ℕ) → Way edge a b → way_below edge n a b ≡ true
way-is-found edge n low a b (one e) = edge-found edge n a b e
way-is-found edge n low a b (more {c = c} e v) = way-meets edge n a c b (starts v) (edge-found edge n a c e) (way-is-found edge n low c b v)
  where
    starts : {x y : ℕ} → Way edge x y → x < n
    starts (one f) = low _ _ f
    starts (more f u) = low _ _ f

-- ---- edges that do not touch a session

-- a way either keeps to the old edges or passes i
way-past : (edge new : ℕ → ℕ → Bool) (i : ℕ) → ((a b : ℕ) → a ≢ i → b ≢ i → new a b ≡ true → edge a b ≡ true) → (a b : ℕ) → a ≢ i → b ≢ i → Way new a b
    → Way edge a b ⊎ (Way new a i × Way new i b)
way-past edge new i same a b na nb (one e) = inl (one (same a b na nb e))
way-past edge new i same a b na nb (more {c = c} e v) = at (cases_eq c i) (λ nc. way-past edge new i same c b nc nb v)
  where
    at : (c ≡ i) ⊎ (c ≢ i) → (c ≢ i → Way edge c b ⊎ (Way new c i × Way new i b)) → Way edge a b ⊎ (Way new a i × Way new i b)
    at (inl k) rec = inr (one (subst (λ x. new a x ≡ true) k e), subst (λ x. Way new x b) k v)
    at (inr nc) rec = ⊎_elim (λ u. inl (more (same a c na nc e) u)) (λ p. inr (more e p.0, p.1)) (rec nc)

-- no ring comes where none passes i, and the other edges are old
pub no-ring-past : (edge new : ℕ → ℕ → Bool) (i : ℕ) → ((a b : ℕ) → a ≢ i → b ≢ i → new a b ≡ true → edge a b ≡ true) → (Way new i i → ⊥) → NoRing edge
    → NoRing new
no-ring-past edge new i same not_i none c v =
    ⊎_elim (λ k. not_i (subst (λ x. Way new x x) k v))
    (λ nc. ⊎_elim (λ u. none c u) (λ p. not_i (way-join new i c i p.1 p.0)) (way-past edge new i same c c nc nc v)) (cases_eq c i)

-- nobody reaches from where no edge starts
pub no-way-from : (edge : ℕ → ℕ → Bool) (a b : ℕ) → ((b : ℕ) → edge a b ≡ false) → Way edge a b → ⊥
no-way-from edge a b none (one e) = both_ways _ (none b) e
no-way-from edge a b none (more {c = c} e v) = both_ways _ (none c) e

-- ---- the edges of waits

-- one that fails the test may be put in
any-filter-put : (g p : Wait → Bool) (v : Wait) (xs ys : List Wait) → g v ≡ false → list_any g (filter p (xs ++ v ∷ ys)) ≡ list_any g (filter p (xs ++ ys))
any-filter-put g p v [] ys e = at (p v)
  where
    at : (b : Bool) → list_any g (cond b (v ∷ filter p ys) (filter p ys)) ≡ list_any g (filter p ys)
    at true = ap (λ b. b || list_any g (filter p ys)) e
    at false = refl
any-filter-put g p v (x ∷ xs) ys e = at (p x) (any-filter-put g p v xs ys e)
  where
    at : (b : Bool) → list_any g (filter p (xs ++ v ∷ ys)) ≡ list_any g (filter p (xs ++ ys))
        → list_any g (cond b (x ∷ filter p (xs ++ v ∷ ys)) (filter p (xs ++ v ∷ ys))) ≡ list_any g (cond b (x ∷ filter p (xs ++ ys)) (filter p (xs ++ ys)))
    at true h = ap (λ b. g x || b) h
    at false h = h

-- whether b is ahead, by the two kinds
abbrev ahead-any : Look → ℕ → Wait → List Wait → List Wait → Bool → Bool
ahead-any look b w before after converting =
    cond converting
    (list_any (λ x. x.session == b) (filter (λ x. same_resource x.resource w.resource && converts look x) before))
    (list_any (λ x. x.session == b) (filter (λ x. same_resource x.resource w.resource) before) || list_any (λ x. x.session == b)
    (filter (λ x. same_resource x.resource w.resource && converts look x) after))

ahead-is : (look : Look) (b : ℕ) (w : Wait) (before after : List Wait)
    → list_any (λ x. x.session == b) (ahead look (record { before = before; wait = w; after = after })) ≡ ahead-any look b w before after (converts look w)
ahead-is look b w before after = at (converts look w)
  where
    at : (c : Bool) → list_any (λ (x : Wait). x.session == b)
        (cond c (filter (λ x. same_resource x.resource w.resource && converts look x) before) (filter (λ x. same_resource x.resource w.resource) before
        ++ filter (λ x. same_resource x.resource w.resource && converts look x) after)) ≡ ahead-any look b w before after c
    at true = refl
    at false = any-append (λ (x : Wait). x.session == b) (filter (λ x. same_resource x.resource w.resource) before)
        (filter (λ x. same_resource x.resource w.resource && converts look x) after)

module _ (look : Look) (a b : ℕ) (v : Wait) (not_a : (v.session == a) ≡ false) (not_b : (v.session == b) ≡ false) where
  abbrev edge-at : Spot → Bool
  edge-at s = (s.wait.session == a) && holds_up look s b

  put-before : (w : Wait) (xs ys after : List Wait) → edge-at (record { before = xs ++ v ∷ ys; wait = w; after = after })
      ≡ edge-at (record { before = xs ++ ys; wait = w; after = after })
  put-before w xs ys after =
      let h : ahead-any look b w (xs ++ v ∷ ys) after (converts look w) ≡ ahead-any look b w (xs ++ ys) after (converts look w) =
      (λ i. cond (converts look w) (any-filter-put (λ x. x.session == b) (λ x. same_resource x.resource w.resource && converts look x) v xs ys not_b i)
      (any-filter-put (λ x. x.session == b) (λ x. same_resource x.resource w.resource) v xs ys not_b i || list_any (λ (x : Wait). x.session == b)
      (filter (λ x. same_resource x.resource w.resource && converts look x) after))) in
      ap (λ t. (w.session == a) && (not (w.session == b) && (not (fits_with (wanted_by look w) (look b w.resource)) || t))) (ahead-is look b w (xs
      ++ v ∷ ys) after ∙ h ∙ sym (ahead-is look b w (xs ++ ys) after))

  put-after : (w : Wait) (before xs ys : List Wait) → edge-at (record { before = before; wait = w; after = xs ++ v ∷ ys })
      ≡ edge-at (record { before = before; wait = w; after = xs ++ ys })
  put-after w before xs ys =
      let h : ahead-any look b w before (xs ++ v ∷ ys) (converts look w) ≡ ahead-any look b w before (xs ++ ys) (converts look w) =
      (λ i. cond (converts look w) (list_any (λ (x : Wait). x.session == b) (filter (λ x. same_resource x.resource w.resource && converts look x) before))
      (list_any (λ (x : Wait). x.session == b) (filter (λ x. same_resource x.resource w.resource) before) || any-filter-put (λ x. x.session == b)
      (λ x. same_resource x.resource w.resource && converts look x) v xs ys not_b i)) in
      ap (λ t. (w.session == a) && (not (w.session == b) && (not (fits_with (wanted_by look w) (look b w.resource)) || t))) (ahead-is look b w before (xs
      ++ v ∷ ys) ∙ h ∙ sym (ahead-is look b w before (xs ++ ys)))

  spots-before : (xs ys after : List Wait) → list_any edge-at (spots_from (xs ++ v ∷ ys) after) ≡ list_any edge-at (spots_from (xs ++ ys) after)
  spots-before xs ys [] = refl
  spots-before xs ys (w ∷ after) =
      let l : list_any edge-at (spots_from ((xs ++ v ∷ ys) ++ w ∷ []) after) ≡ list_any edge-at (spots_from (xs ++ v ∷ (ys ++ w ∷ [])) after) =
      ap (λ p. list_any edge-at (spots_from p after)) (append_assoc xs (v ∷ ys) (w ∷ [])) in
      let r : list_any edge-at (spots_from ((xs ++ ys) ++ w ∷ []) after) ≡ list_any edge-at (spots_from (xs ++ (ys ++ w ∷ [])) after) =
      ap (λ p. list_any edge-at (spots_from p after)) (append_assoc xs ys (w ∷ [])) in
      let t = l ∙ spots-before xs (ys ++ w ∷ []) after ∙ sym r in
      λ i. put-before w xs ys after i || t i

  spots-put : (before us vs : List Wait) → list_any edge-at (spots_from before (us ++ v ∷ vs)) ≡ list_any edge-at (spots_from before (us ++ vs))
  spots-put before [] vs =
      ap (λ t. (t && holds_up look (record { before = before; wait = v; after = vs }) b) || list_any edge-at (spots_from (before ++ v ∷ []) vs)) not_a
      ∙ spots-before before [] vs ∙ ap (λ p. list_any edge-at (spots_from p vs)) (append-nil before)
  spots-put before (u ∷ us) vs = λ i. put-after u before us vs i || spots-put (before ++ u ∷ []) us vs i

  -- a wait of another session makes no edge between these two
  pub edge-put : (us vs : List Wait) → waits_for look (us ++ v ∷ vs) a b ≡ waits_for look (us ++ vs) a b
  edge-put us vs = spots-put [] us vs

-- who has an edge waits
pub edge-from : (look : Look) (P : Wait → Type 0) (a b : ℕ) (before after : List Wait) → EachWait P after
    → list_any (λ (s : Spot). (s.wait.session == a) && holds_up look s b) (spots_from before after) ≡ true → (v : Wait) × P v × (v.session ≡ a)
edge-from look P a b before [] p e = cc
edge-from look P a b before (w ∷ after) p e =
    elim (or_cases ((w.session == a) && holds_up look (record { before = before; wait = w; after = after }) b) _ e) [
      | inl h ↦ (w, p.0, eqb-true w.session a (and_parts (w.session == a) _ h).0)
      | inr h ↦ edge-from look P a b (before ++ w ∷ []) after p.1 h
    ]

pub no-edge-from : (look : Look) (i b : ℕ) (ws : List Wait) → EachWait (λ v. v.session ≢ i) ws → waits_for look ws i b ≡ false
no-edge-from look i b ws not_i =
    ⊎_elim (λ h. let x = edge-from look (λ v. v.session ≢ i) i b [] ws not_i h in absurd (x.1 x.2)) (λ h. h) (cases_Bool (waits_for look ws i b))

-- look-ups that differ at i alone give the same edges between others
module _ (old new : Look) (i a b : ℕ) (off : (c : ℕ) (r : Resource) → c ≢ i → new c r ≡ old c r) (nb : b ≢ i) where
  abbrev Not-i : Wait → Type 0
  Not-i v = v.session ≢ i

  converts-off : (w : Wait) → w.session ≢ i → converts new w ≡ converts old w
  converts-off w n = ap is_some (off w.session w.resource n)

  filter-off : (r : Resource) (ws : List Wait) → EachWait Not-i ws → filter (λ w. same_resource w.resource r && converts new w) ws
      ≡ filter (λ w. same_resource w.resource r && converts old w) ws
  filter-off r [] n = refl
  filter-off r (w ∷ ws) n = λ k. cond (same_resource w.resource r && converts-off w n.0 k) (w ∷ filter-off r ws n.1 k) (filter-off r ws n.1 k)

  spot-off : (before : List Wait) (w : Wait) (after : List Wait) → EachWait Not-i before → w.session ≢ i → EachWait Not-i after
      → (let s : Spot = record { before = before; wait = w; after = after } in ((s.wait.session == a) && holds_up new s b)
      ≡ ((s.wait.session == a) && holds_up old s b))
  spot-off before w after p n q =
      λ k. (w.session == a) && (not (w.session == b) && (not (fits_with (wanted (off w.session w.resource n k) w.mode) (off b w.resource nb k))
      || list_any (λ (x : Wait). x.session == b)
      (cond (converts-off w n k) (filter-off w.resource before p k) (filter (λ x. same_resource x.resource w.resource) before
      ++ filter-off w.resource after q k))))

  each-push : (ws : List Wait) (w : Wait) → EachWait Not-i ws → w.session ≢ i → EachWait Not-i (ws ++ w ∷ [])
  each-push [] w p n = (n, tt)
  each-push (x ∷ xs) w p n = (p.0, each-push xs w p.1 n)

  spots-off : (before after : List Wait) → EachWait Not-i before → EachWait Not-i after
      → list_any (λ (s : Spot). (s.wait.session == a) && holds_up new s b) (spots_from before after)
      ≡ list_any (λ (s : Spot). (s.wait.session == a) && holds_up old s b) (spots_from before after)
  spots-off before [] p q = refl
  spots-off before (w ∷ after) p q = λ k. spot-off before w after p q.0 q.1 k || spots-off (before ++ w ∷ []) after (each-push before w p q.0) q.1 k

  pub edge-off : (ws : List Wait) → EachWait (λ v. v.session ≢ i) ws → waits_for new ws a b ≡ waits_for old ws a b
  edge-off ws q = spots-off [] ws tt q
