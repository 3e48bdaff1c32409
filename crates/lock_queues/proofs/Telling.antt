-- The edges of a wait, told one session and one other wait at a time, are those of the definitions.
use Rattle.std.proofs.Common.{◌≡◌, ◌≢◌, refl, sym, ap, ◌∙◌, ℕ, ◌+◌, Bool, true, false, cond, not, ◌&&◌, ◌||◌, ◌==◌, List, [], ◌∷◌, ◌++◌}
use Rattle.std.proofs.Common.{filter, nat_lt, length, length-append, Some, None, arith, append_assoc, append-nil, eqb-true}
use Rattle.std.proofs.lemmas.Bool.{false_from_ne_true}
use Rattle.std.specs.List.{list_any, position, position_or_len}
use Rattle.lock_modes.specs.Resource.{same_resource}
use Rattle.lock_queues.specs.declared.reason.Reason.TheVariants.{Ahead}
use Rattle.lock_queues.specs.declared.reason.Edge.{Edge}
use Rattle.lock_queues.specs.declared.wait.Wait.{Wait}
use Rattle.lock_queues.specs.Locks.{Spot, Look, wanted_by, converts, ahead, spots_from, spots}
use Rattle.lock_queues.specs.Queue.{is_ahead}
use Rattle.lock_queues.specs.Reasons.{held_edges, ahead_edges, edges_to, spot_of}
use Rattle.lock_queues.specs.Rules.{IsSpot}
use Rattle.lock_queues.specs.Sides.{side_edges}
use Rattle.lock_queues.proofs.Keeping.{absent-place}
use Rattle.lock_queues.proofs.Spots.{same-spot, spot-within}

-- ---- the waits ahead

ahead-append : (look : Look) (b : ℕ) (us vs : List Wait) → ahead_edges look b (us ++ vs) ≡ ahead_edges look b us ++ ahead_edges look b vs
ahead-append look b [] vs = refl
ahead-append look b (u ∷ us) vs = at (u.session == b) (ahead-append look b us vs)
  where
    at : (c : Bool) → ahead_edges look b (us ++ vs) ≡ ahead_edges look b us ++ ahead_edges look b vs
        → cond c (record { session = b; reason = Ahead (wanted_by look u) } ∷ ahead_edges look b (us ++ vs)) (ahead_edges look b (us ++ vs))
        ≡ cond c (record { session = b; reason = Ahead (wanted_by look u) } ∷ ahead_edges look b us) (ahead_edges look b us) ++ ahead_edges look b vs
    at true e = ap (λ es. let all : List Edge = record { session = b; reason = Ahead (wanted_by look u) } ∷ es in all) e
    at false e = e

filter-same : (f g : Wait → Bool) → ((w : Wait) → f w ≡ g w) → (ws : List Wait) → filter f ws ≡ filter g ws
filter-same f g e [] = refl
filter-same f g e (w ∷ ws) = λ i. cond (e w i) (w ∷ filter-same f g e ws i) (filter-same f g e ws i)

filter-none : (f : Wait → Bool) → ((w : Wait) → f w ≡ false) → (ws : List Wait) → filter f ws ≡ []
filter-none f e [] = refl
filter-none f e (w ∷ ws) = ap (λ b. cond b (w ∷ filter f ws) (filter f ws)) (e w) ∙ filter-none f e ws

and-false : (b : Bool) → (b && false) ≡ false
and-false true = refl
and-false false = refl

and-one : (b : Bool) → (b && true) ≡ b
and-one true = refl
and-one false = refl

-- what stands ahead, of those before and of those after
ahead-sides : (look : Look) (s : Spot) → filter (is_ahead look s.wait true) s.before ++ filter (is_ahead look s.wait false) s.after ≡ ahead look s
ahead-sides look s = at (converts look s.wait)
  where
    at : (c : Bool)
        → filter (λ (v : Wait). same_resource v.resource s.wait.resource && cond c (true && converts look v) (true || converts look v)) s.before
        ++ filter (λ (v : Wait). same_resource v.resource s.wait.resource && cond c (false && converts look v) (false || converts look v)) s.after
        ≡ cond c (filter (λ (v : Wait). same_resource v.resource s.wait.resource && converts look v) s.before)
        (filter (λ (v : Wait). same_resource v.resource s.wait.resource) s.before
        ++ filter (λ (v : Wait). same_resource v.resource s.wait.resource && converts look v) s.after)
    at true =
        ap (λ vs. filter (λ (v : Wait). same_resource v.resource s.wait.resource && converts look v) s.before ++ vs)
        (filter-none (λ (v : Wait). same_resource v.resource s.wait.resource && false) (λ v. and-false (same_resource v.resource s.wait.resource)) s.after)
        ∙ append-nil _
    at false =
        ap (λ vs. vs ++ filter (λ (v : Wait). same_resource v.resource s.wait.resource && converts look v) s.after)
        (filter-same (λ (v : Wait). same_resource v.resource s.wait.resource && true)
        (λ (v : Wait). same_resource v.resource s.wait.resource) (λ v. and-one (same_resource v.resource s.wait.resource)) s.before)

side-ahead : (look : Look) (b : ℕ) (w : Wait) (earlier : Bool) (vs : List Wait)
    → side_edges look b w earlier vs ≡ ahead_edges look b (filter (is_ahead look w earlier) vs)
side-ahead look b w earlier [] = refl
side-ahead look b w earlier (v ∷ vs) = at (v.session == b) refl (is_ahead look w earlier v) (side-ahead look b w earlier vs)
  where
    at : (own : Bool) → (v.session == b) ≡ own → (is : Bool) → side_edges look b w earlier vs ≡ ahead_edges look b (filter (is_ahead look w earlier) vs)
        → cond (own && is) (record { session = b; reason = Ahead (wanted_by look v) } ∷ []) [] ++ side_edges look b w earlier vs
        ≡ ahead_edges look b (cond is (v ∷ filter (is_ahead look w earlier) vs) (filter (is_ahead look w earlier) vs))
    at true own true e =
        ap (λ es. let all : List Edge = record { session = b; reason = Ahead (wanted_by look v) } ∷ es in all) e
        ∙ sym (ap (λ c. cond c (record { session = b; reason = Ahead (wanted_by look v) } ∷ ahead_edges look b (filter (is_ahead look w earlier) vs))
        (ahead_edges look b (filter (is_ahead look w earlier) vs))) own)
    at false own true e =
        e ∙ sym (ap (λ c. cond c (record { session = b; reason = Ahead (wanted_by look v) } ∷ ahead_edges look b (filter (is_ahead look w earlier) vs))
        (ahead_edges look b (filter (is_ahead look w earlier) vs))) own)
    at true own false e = e
    at false own false e = e

-- both sides told are the edges to the waits ahead
pub sides-ahead : (look : Look) (b : ℕ) (s : Spot)
    → side_edges look b s.wait true s.before ++ side_edges look b s.wait false s.after ≡ ahead_edges look b (ahead look s)
sides-ahead look b s =
    (λ i. side-ahead look b s.wait true s.before i ++ side-ahead look b s.wait false s.after i)
    ∙ sym (ahead-append look b (filter (is_ahead look s.wait true) s.before) (filter (is_ahead look s.wait false) s.after))
    ∙ ap (ahead_edges look b) (ahead-sides look s)

-- what is told of a session is all that is to be told of it
pub session-told : (look : Look) (b : ℕ) (s : Spot) (old : List Edge) → s.wait.session ≢ b
    → ((old ++ held_edges b (wanted_by look s.wait) (look b s.wait.resource)) ++ side_edges look b s.wait true s.before)
    ++ side_edges look b s.wait false s.after ≡ old ++ edges_to look s b
session-told look b s old other =
    append_assoc (old ++ held_edges b (wanted_by look s.wait) (look b s.wait.resource)) _ _
    ∙ append_assoc old (held_edges b (wanted_by look s.wait) (look b s.wait.resource)) _
    ∙ ap (λ es. old ++ (held_edges b (wanted_by look s.wait) (look b s.wait.resource) ++ es)) (sides-ahead look b s)
    ∙ sym (ap (λ c. old ++ cond c [] (held_edges b (wanted_by look s.wait) (look b s.wait.resource) ++ ahead_edges look b (ahead look s)))
    (false_from_ne_true (s.wait.session == b) (λ h. other (eqb-true s.wait.session b h))))

-- ---- the session's own wait

spot-first : (a : ℕ) (before after : List Wait) (s : Spot) → IsSpot (before ++ after) s
    → length s.before ≡ length before + position_or_len (λ (w : Wait). w.session == a) after → spot_of a (spots_from before after) ≡ Some s
spot-first a before [] s there n =
    absurd (omega (arith, n, spot-within (before ++ []) s there, ap (λ (ws : List Wait). length ws) (append-nil before)))
spot-first a before (w ∷ after) s there n = at (w.session == a) (spot-first a (before ++ w ∷ []) after s) n
  where
    at : (c : Bool)
        → (IsSpot ((before ++ w ∷ []) ++ after) s → length s.before ≡ length (before ++ w ∷ []) + position_or_len (λ (w : Wait). w.session == a) after
        → spot_of a (spots_from (before ++ w ∷ []) after) ≡ Some s)
        → length s.before ≡ length before + cond (not c) (1 + position_or_len (λ (w : Wait). w.session == a) after) 0
        → cond c (Some (record { before = before; wait = w; after = after })) (spot_of a (spots_from (before ++ w ∷ []) after)) ≡ Some s
    at true rec n =
        ap (λ (t : Spot). Some t)
        (same-spot (before ++ w ∷ after) (record { before = before; wait = w; after = after }) s refl there (omega (arith, n)))
    at false rec n = rec (there ∙ sym (append_assoc before (w ∷ []) after)) (omega (arith, n, length-append before (w ∷ [])))

spot-none : (a : ℕ) (before after : List Wait) → list_any (λ (w : Wait). w.session == a) after ≡ false → spot_of a (spots_from before after) ≡ None
spot-none a before [] e = refl
spot-none a before (w ∷ after) e = at (w.session == a) e (spot-none a (before ++ w ∷ []) after)
  where
    at : (c : Bool) → (c || list_any (λ (w : Wait). w.session == a) after) ≡ false
        → (list_any (λ (w : Wait). w.session == a) after ≡ false → spot_of a (spots_from (before ++ w ∷ []) after) ≡ None)
        → cond c (Some (record { before = before; wait = w; after = after })) (spot_of a (spots_from (before ++ w ∷ []) after)) ≡ None
    at true e rec = absurd (let x : true ≡ false = e in cc)
    at false e rec = rec e

pub spot-absent : (a : ℕ) (waits : List Wait) → position (λ (w : Wait). w.session == a) waits ≡ None → spot_of a (spots waits) ≡ None
spot-absent a waits e = spot-none a [] waits (absent-place (λ (w : Wait). w.session == a) waits e)

pub spot-there : (a : ℕ) (waits : List Wait) (k : ℕ) (s : Spot) → position (λ (w : Wait). w.session == a) waits ≡ Some k → IsSpot waits s
    → length s.before ≡ k → spot_of a (spots waits) ≡ Some s
spot-there a waits k s e there n =
    spot-first a [] waits s there
    (n ∙ sym (at (nat_lt (position_or_len (λ (w : Wait). w.session == a) waits) (length waits)) e) ∙ zero-plus _)
  where
    zero-plus : (n : ℕ) → n ≡ 0 + n
    zero-plus n = omega arith

    at : (b : Bool) → cond b (Some (position_or_len (λ (w : Wait). w.session == a) waits)) None ≡ Some k
        → position_or_len (λ (w : Wait). w.session == a) waits ≡ k
    at true h = cc
    at false h = absurd (let x : None ≡ Some k = h in cc)
