-- Where nothing is ripe and there is no ring, each session that waits reaches one that does not.
use Rattle.std.proofs.Common.{◌≡◌, refl, sym, ap, ◌∙◌, subst, ℕ, zero, suc, ◌+◌, ◌<◌, ◌≤◌, Bool, true, false, cond, not, ◌&&◌, ◌||◌, ◌==◌, List, [], ◌∷◌}
use Rattle.std.proofs.Common.{◌++◌, filter, Some, None, ◌⊎◌, inl, inr, ⊎_elim, arith, append_assoc, eqb-true, eq-eqb}
use Rattle.std.specs.List.{list_any}
use Rattle.std.proofs.lemmas.Bool.{and_from, both_ways, cases_Bool, or_cases, or_left, or_right, or_parts, not_from_false, ne_eqb}
use Rattle.lock_queues.specs.Locks.{Wait, Spot, Look, fits, fits_with, all_below, wanted_by, converts, ahead, is_empty, is_ripe, first_ripe, next_grant}
use Rattle.lock_queues.specs.Locks.{spots_from, holds_up, waits_for, waits_now, way_below}
use Rattle.lock_modes.specs.Resource.{same_resource}
use Rattle.lock_queues.specs.Sound.{Way, one, more, NoRing, EachWait, Distinct}
use Rattle.lock_queues.proofs.Rings.{way-found, way-meets, edge-found}
use Rattle.lock_queues.proofs.WaitLists.{Not, wait-append, wait-left, wait-right, wait-filter, distinct-without}

all_below-false : (n : ℕ) (f : ℕ → Bool) → all_below n f ≡ false → (c : ℕ) × (f c ≡ false)
all_below-false zero f e = cc
all_below-false (suc n) f e = ⊎_elim (λ h. all_below-false n f (sym (ap (λ b. b && all_below n f) h) ∙ e)) (λ h. (n, h)) (cases_Bool (f n))

ahead-each : (look : Look) (P : Wait → Type 0) (s : Spot) → EachWait P s.before → EachWait P s.after → EachWait P (ahead look s)
ahead-each look P s p q =
    let there = λ (w : Wait). same_resource w.resource s.wait.resource in
    elim (converts look s.wait) as (λ b. EachWait P (cond b (filter (λ w. there w && converts look w) s.before) (filter there s.before
    ++ filter (λ w. there w && converts look w) s.after))) [
      | true ↦ wait-filter P (λ w. there w && converts look w) s.before p
      | false ↦ wait-append P _ _ (wait-filter P there s.before p) (wait-filter P (λ w. there w && converts look w) s.after q)
    ]

first-of : (P : Wait → Type 0) (ws : List Wait) → EachWait P ws → is_empty ws ≡ false → (b : ℕ) × (v : Wait) × P v × (v.session ≡ b)
    × (list_any (λ w. w.session == b) ws ≡ true)
first-of P [] p e = cc
first-of P (w ∷ ws) p e = (w.session, w, p.0, refl, or_left _ _ (eq-eqb w.session w.session refl))

-- a wait that is not ripe is held up
held-up : (n : ℕ) (look : Look) (s : Spot) → EachWait (Not s.wait.session) s.before → EachWait (Not s.wait.session) s.after → is_ripe n look s ≡ false
    → (b : ℕ) × (holds_up look s b ≡ true)
held-up n look s p q e = ⊎_elim by-ahead by-mode (cases_Bool (fits n look s.wait.session s.wait.resource (wanted_by look s.wait)))
  where
    by-mode : fits n look s.wait.session s.wait.resource (wanted_by look s.wait) ≡ false → (b : ℕ) × (holds_up look s b ≡ true)
    by-mode h =
        let x = all_below-false n (λ c. (c == s.wait.session) || fits_with (wanted_by look s.wait) (look c s.wait.resource)) h in
        let y = or_parts (x.0 == s.wait.session) _ x.1 in (
          x.0,
          and_from _ _ (not_from_false _ (ne_eqb s.wait.session x.0 (λ k. both_ways _ y.0 (eq-eqb x.0 s.wait.session (sym k)))))
              (or_left _ _ (not_from_false _ y.1)),
        )

    by-ahead : fits n look s.wait.session s.wait.resource (wanted_by look s.wait) ≡ true → (b : ℕ) × (holds_up look s b ≡ true)
    by-ahead h =
        let k : is_empty (ahead look s) ≡ false = sym (ap (λ b. b && is_empty (ahead look s)) h) ∙ e in
        let x = first-of (Not s.wait.session) (ahead look s) (ahead-each look (Not s.wait.session) s p q) k in (
          x.0,
          and_from _ _ (not_from_false _ (ne_eqb s.wait.session x.0 (λ j. x.2 (x.3
              ∙ sym j)))) (or_right (not (fits_with (wanted_by look s.wait) (look x.0 s.wait.resource))) _ x.4),
        )

waits-for : (n : ℕ) (look : Look) (a : ℕ) (before after : List Wait) → Distinct (before ++ after) → first_ripe n look (spots_from before after) ≡ None
    → waits_now after a ≡ true
    → (b : ℕ) × (list_any (λ (s : Spot). (s.wait.session == a) && holds_up look s b) (spots_from before after) ≡ true)
waits-for n look a before [] d e h = cc
waits-for n look a before (w ∷ after) d e h =
    let s : Spot = record { before = before; wait = w; after = after } in
    let out = distinct-without before w after d in
    at (is_ripe n look s) refl (or_cases (w.session == a) _ h) (λ k g. waits-for n look a (before
    ++ w ∷ []) after (subst Distinct (sym (append_assoc before (w ∷ []) after)) d) k g)
  where
    s : Spot
    s = record { before = before; wait = w; after = after }

    out : Distinct (before ++ after) × EachWait (Not w.session) (before ++ after)
    out = distinct-without before w after d

    at : (r : Bool) → is_ripe n look s ≡ r → ((w.session == a) ≡ true) ⊎ (waits_now after a ≡ true)
        → (first_ripe n look (spots_from (before ++ w ∷ []) after) ≡ None → waits_now after a ≡ true → (b : ℕ)
        × (list_any (λ (s : Spot). (s.wait.session == a) && holds_up look s b) (spots_from (before ++ w ∷ []) after) ≡ true))
        → (b : ℕ) × (list_any (λ (s : Spot). (s.wait.session == a) && holds_up look s b) (spots_from before (w ∷ after)) ≡ true)
    at true is c rec = absurd (let f : Some s ≡ None = sym (ap (λ b. cond b (Some s) (first_ripe n look (spots_from (before ++ w ∷ []) after))) is) ∙ e in cc)
    at false is (inl c) rec =
        let x = held-up n look s (wait-left (Not w.session) before after out.1) (wait-right (Not w.session) before after out.1) is in
        (x.0, or_left _ _ (and_from _ _ c x.1))
    at false is (inr c) rec =
        let x = rec (sym (ap (λ b. cond b (Some s) (first_ripe n look (spots_from (before ++ w ∷ []) after))) is) ∙ e) c in
        (x.0, or_right ((w.session == a) && holds_up look s x.0) _ x.1)

-- ---- how many are reached

abbrev counted : ℕ → (ℕ → Bool) → ℕ
counted zero f = 0
counted (suc n) f = cond (f n) 1 0 + counted n f

counted-le : (n : ℕ) (f g : ℕ → Bool) → ((b : ℕ) → f b ≡ true → g b ≡ true) → counted n f ≤ counted n g
counted-le zero f g h = omega arith
counted-le (suc n) f g h = let rest = counted-le n f g h in at (f n) (g n) (h n) rest
  where
    at : (x y : Bool) → (x ≡ true → y ≡ true) → counted n f ≤ counted n g → cond {A = ℕ} x 1 0 + counted n f ≤ cond {A = ℕ} y 1 0 + counted n g
    at true true k r = omega arith
    at true false k r = absurd (both_ways false refl (k refl))
    at false true k r = omega arith
    at false false k r = omega arith

counted-lt : (n : ℕ) (f g : ℕ → Bool) (c : ℕ) → c < n → ((b : ℕ) → f b ≡ true → g b ≡ true) → f c ≡ false → g c ≡ true → counted n f < counted n g
counted-lt zero f g c lt h fails passes = absurd (omega arith)
counted-lt (suc n) f g c lt h fails passes =
    let cases : (c ≡ n) ⊎ (c < n) = grind arith in
    ⊎_elim
    (λ k. (let r = counted-le n f g h in
    let a : ◌≡◌ {A = ℕ} (cond (f n) 1 0) 0 = ap (λ b. cond b 1 0) (sym (ap f k) ∙ fails) in
    let b : ◌≡◌ {A = ℕ} (cond (g n) 1 0) 1 = ap (λ b. cond b 1 0) (sym (ap g k) ∙ passes) in omega arith))
    (λ l. at (f n) (g n) (h n) (counted-lt n f g c l h fails passes)) cases
  where
    at : (x y : Bool) → (x ≡ true → y ≡ true) → counted n f < counted n g → cond {A = ℕ} x 1 0 + counted n f < cond {A = ℕ} y 1 0 + counted n g
    at true true k r = omega arith
    at true false k r = absurd (both_ways false refl (k refl))
    at false true k r = omega arith
    at false false k r = omega arith

-- ---- the way out

module _ (look : Look) (waits : List Wait) (n : ℕ) (distinct : Distinct waits) (no_ring : NoRing (waits_for look waits)) (unripe : next_grant n look waits
    ≡ None) (low : EachWait (λ w. w.session < n) waits) where
  abbrev edge : ℕ → ℕ → Bool
  edge = waits_for look waits

  waiter-known : (a : ℕ) → waits_now waits a ≡ true → a < n
  waiter-known a h = at waits low h
    where
      at : (ws : List Wait) → EachWait (λ w. w.session < n) ws → waits_now ws a ≡ true → a < n
      at [] r e = cc
      at (v ∷ vs) r e = ⊎_elim (λ k. subst (λ x. x < n) (eqb-true v.session a k) r.0) (λ k. at vs r.1 k) (or_cases (v.session == a) _ e)

  out-edge : (a : ℕ) → waits_now waits a ≡ true → (b : ℕ) × (edge a b ≡ true)
  out-edge a h = waits-for n look a [] waits distinct unripe h

  reaches : (fuel a : ℕ) → counted n (way_below edge n a) < fuel → waits_now waits a ≡ true → (b : ℕ) × Way edge a b × (waits_now waits b ≡ false)
  reaches zero a lt h = absurd (omega arith)
  reaches (suc fuel) a lt h = let x = out-edge a h in at x.0 x.1 (cases_Bool (waits_now waits x.0)) (λ l g. reaches fuel x.0 l g)
    where
      at : (c : ℕ) → edge a c ≡ true → (waits_now waits c ≡ true) ⊎ (waits_now waits c ≡ false)
          → (counted n (way_below edge n c) < fuel → waits_now waits c ≡ true → (b : ℕ) × Way edge c b × (waits_now waits b ≡ false)) → (b : ℕ)
          × Way edge a b × (waits_now waits b ≡ false)
      at c e (inr free) rec = (c, one e, free)
      at c e (inl now) rec =
          let known' = waiter-known c now in
          let self : way_below edge n c c ≡ false = ⊎_elim (λ k. absurd (no_ring c (way-found edge n c c k))) (λ k. k) (cases_Bool (way_below edge n c c)) in
          let fewer = counted-lt n (way_below edge n c) (way_below edge n a) c known' (λ b k. way-meets edge n a c b known' (edge-found edge n a c e) k)
          self (edge-found edge n a c e) in
          let y = rec (omega arith) now in
          (y.0, more e y.1, y.2)

  pub waiter-reaches : (a : ℕ) → waits_now waits a ≡ true → (b : ℕ) × Way edge a b × (waits_now waits b ≡ false)
  waiter-reaches a h = reaches (suc (counted n (way_below edge n a))) a (omega arith) h
