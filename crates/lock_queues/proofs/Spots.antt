-- The waits of a list, each with those before it and after it.
use Rattle.std.proofs.Common.{◌≡◌, refl, sym, ◌∙◌, subst, ℕ, ◌<◌, Bool, true, ◌&&◌, ◌==◌, List, [], ◌∷◌, ◌++◌, length, ⊎_elim, arith, append_assoc}
use Rattle.std.proofs.Common.{append-nil, length-append}
use Rattle.std.specs.List.{list_any}
use Rattle.std.proofs.lemmas.Bool.{and_parts, or_cases, or_left, or_right}
use Rattle.lock_queues.specs.Locks.{Wait, Spot, Look, spots_from, spots, holds_up, waits_for, waits_now}
use Rattle.lock_queues.specs.Rules.{IsSpot}
use Rattle.lock_queues.proofs.Ahead.{any-append}

-- what passes at some spot
pub any-spot : (f : Spot → Bool) (before after : List Wait) → list_any f (spots_from before after) ≡ true → (s : Spot)
    × (IsSpot (before ++ after) s × (f s ≡ true))
any-spot f before [] e = cc
any-spot f before (w ∷ after) e =
    ⊎_elim (λ h. (record { before = before; wait = w; after = after }, (refl, h)))
    (λ h. let r = any-spot f (before ++ w ∷ []) after h in (r.0, (r.1.0 ∙ append_assoc before (w ∷ []) after, r.1.1)))
    (or_cases (f (record { before = before; wait = w; after = after })) _ e)

-- and what passes at one passes at some
pub spot-any : (f : Spot → Bool) (before mid : List Wait) (w : Wait) (after : List Wait) → f (record { before = before ++ mid; wait = w; after = after })
    ≡ true → list_any f (spots_from before (mid ++ w ∷ after)) ≡ true
spot-any f before [] w after e = or_left _ _ (subst (λ b. f (record { before = b; wait = w; after = after }) ≡ true) (append-nil before) e)
spot-any f before (v ∷ mid) w after e =
    or_right (f (record { before = before; wait = v; after = mid ++ w ∷ after })) _
    (spot-any f (before ++ v ∷ []) mid w after (subst (λ b. f (record { before = b; wait = w; after = after })
    ≡ true) (sym (append_assoc before (v ∷ []) mid)) e))

pub passes-at : (f : Spot → Bool) (waits : List Wait) (s : Spot) → IsSpot waits s → f s ≡ true → list_any f (spots waits) ≡ true
passes-at f waits s there e = subst (λ ws. list_any f (spots ws) ≡ true) there (spot-any f [] s.before s.wait s.after e)

-- one wait stands at each place
same-parts : (b c : List Wait) (v w : Wait) (x y : List Wait) → length b ≡ length c → b ++ v ∷ x ≡ c ++ w ∷ y → (b ≡ c) × (v ≡ w) × (x ≡ y)
same-parts [] [] v w x y n e = (refl, cc, cc)
same-parts [] (k ∷ c) v w x y n e = absurd (omega arith)
same-parts (h ∷ b) [] v w x y n e = absurd (omega arith)
same-parts (h ∷ b) (k ∷ c) v w x y n e =
    let heads : h ≡ k = cc in
    let tails : b ++ v ∷ x ≡ c ++ w ∷ y = cc in
    let r = same-parts b c v w x y (omega arith) tails in
    ((λ i. heads i ∷ r.0 i), r.1, r.2)

pub same-spot : (waits : List Wait) (s t : Spot) → IsSpot waits s → IsSpot waits t → length s.before ≡ length t.before → s ≡ t
same-spot waits s t p q n =
    let r = same-parts s.before t.before s.wait t.wait s.after t.after n (p ∙ sym q) in
    λ i. record { before = r.0 i; wait = r.1 i; after = r.2 i }

pub spot-within : (waits : List Wait) (s : Spot) → IsSpot waits s → length s.before < length waits
spot-within waits s p = subst (λ ws. length s.before < length ws) p (omega (arith, length-append s.before (s.wait ∷ s.after)))

-- who has an edge waits
pub edge-waits : (look : Look) (waits : List Wait) (a b : ℕ) → waits_for look waits a b ≡ true → waits_now waits a ≡ true
edge-waits look waits a b e =
    let r = any-spot (λ (s : Spot). (s.wait.session == a) && holds_up look s b) [] waits e in
    let s : Spot = r.0 in
    let here = and_parts (s.wait.session == a) _ r.1.1 in
    subst (λ ws. waits_now ws a ≡ true) r.1.0
    (any-append (λ (w : Wait). w.session == a) s.before (s.wait ∷ s.after) ∙ or_right (waits_now s.before a) _ (or_left _ _ here.0))
