-- What is told of a wait is exact: its edges are those of the definitions.
use Rattle.std.proofs.Common.{◌≡◌, ◌≢◌, refl, sym, ap, ◌∙◌, subst, ℕ, zero, suc, ◌<◌, ◌≤◌, Bool, true, false, cond, not, ◌&&◌, ◌||◌, ◌==◌, List, [], ◌∷◌, ◌++◌}
use Rattle.std.proofs.Common.{filter, Option, Some, None, ◌⊎◌, inl, inr, ⊎_elim, arith, append_assoc, eqb-true, eq-eqb}
use Rattle.std.specs.List.{list_any}
use Rattle.std.proofs.lemmas.List.Folds.{list_any-append}
use Rattle.std.proofs.lemmas.Bool.{both_ways, false_from_ne_true, or_cases, or_left, or_right}
use Rattle.lock_modes.specs.declared.mode.Mode.{Mode}
use Rattle.lock_modes.specs.declared.resource.Resource.{Resource}
use Rattle.lock_modes.specs.Mode.{compatible}
use Rattle.lock_modes.specs.Resource.{same_resource}
use Rattle.lock_queues.specs.declared.wait.Wait.{Wait}
use Rattle.lock_queues.specs.Locks.{Spot, Look, fits_with, wanted_by, converts, ahead, spots_from, spots, holds_up, waits_now}
use Rattle.lock_queues.specs.Rules.{IsSpot}
use Rattle.lock_queues.specs.Sound.{EachWait, Distinct}
use Rattle.lock_queues.specs.LockTable.{look_in}
use Rattle.lock_queues.specs.Laws.{ReasonsAreExact}
use Rattle.lock_queues.proofs.Rings.{edge-from}
use Rattle.lock_queues.proofs.WaitLists.{wait-append, wait-filter, wait-left, wait-right}
use Rattle.lock_queues.specs.Reasons.{Reason, Holds, Ahead, Edge, held_edges, ahead_edges, edges_to, edges_below, spot_of, Want, want_at, want_by, want_of}
use Rattle.lock_queues.specs.Reasons.{Among, leads_to, IsReason, IsEdge, IsExact}

-- ---- lists

pub among-left : {A : Type 0} (x : A) (xs ys : List A) → Among x xs → Among x (xs ++ ys)
among-left x [] ys m = absurd m
among-left x (y ∷ xs) ys (inl e) = inl e
among-left x (y ∷ xs) ys (inr m) = inr (among-left x xs ys m)

pub among-right : {A : Type 0} (x : A) (xs ys : List A) → Among x ys → Among x (xs ++ ys)
among-right x [] ys m = m
among-right x (y ∷ xs) ys m = inr (among-right x xs ys m)

pub among-parts : {A : Type 0} (x : A) (xs ys : List A) → Among x (xs ++ ys) → Among x xs ⊎ Among x ys
among-parts x [] ys m = inr m
among-parts x (y ∷ xs) ys (inl e) = inl (inl e)
among-parts x (y ∷ xs) ys (inr m) = elim (among-parts x xs ys m) [ inl h ↦ inl (inr h) | inr h ↦ inr h ]

pub each-among : (P : Wait → Type 0) (v : Wait) (vs : List Wait) → EachWait P vs → Among v vs → P v
each-among P v [] p m = absurd m
each-among P v (w ∷ vs) p (inl e) = subst P (sym e) p.0
each-among P v (w ∷ vs) p (inr m) = each-among P v vs p.1 m

leads-one : (b : ℕ) (es : List Edge) → leads_to b es ≡ true → (e : Edge) × Among e es × (e.session ≡ b)
leads-one b [] h = cc
leads-one b (e ∷ es) h = elim (or_cases (e.session == b) _ h) [
  | inl k ↦ (e, inl refl, eqb-true e.session b k)
  | inr k ↦ let r = leads-one b es k in (r.0, inr r.1, r.2)
]

leads-by : (b : ℕ) (e : Edge) (es : List Edge) → Among e es → e.session ≡ b → leads_to b es ≡ true
leads-by b e [] m is = absurd m
leads-by b e (x ∷ es) (inl k) is = or_left _ _ (eq-eqb x.session b (sym (ap (λ (y : Edge). y.session) k) ∙ is))
leads-by b e (x ∷ es) (inr m) is = or_right (x.session == b) _ (leads-by b e es m is)

same-truth : (a b : Bool) → (a ≡ true → b ≡ true) → (b ≡ true → a ≡ true) → a ≡ b
same-truth true b f g = sym (f refl)
same-truth false true f g = g refl
same-truth false false f g = refl

-- ---- the edges to one session

pub held-is : (b : ℕ) (wants : Mode) (o : Option Mode) → leads_to b (held_edges b wants o) ≡ not (fits_with wants o)
held-is b wants None = refl
held-is b wants (Some m) = at (compatible wants m)
  where
    at : (c : Bool) → leads_to b (cond c [] (record { session = b; reason = Holds m } ∷ [])) ≡ not c
    at true = refl
    at false = or_left (b == b) false (eq-eqb b b refl)

pub ahead-is : (look : Look) (b : ℕ) (vs : List Wait) → leads_to b (ahead_edges look b vs) ≡ list_any (λ (w : Wait). w.session == b) vs
ahead-is look b [] = refl
ahead-is look b (v ∷ vs) = at (v.session == b) (ahead-is look b vs)
  where
    at : (c : Bool) → leads_to b (ahead_edges look b vs) ≡ list_any (λ (w : Wait). w.session == b) vs
        → leads_to b (cond c (record { session = b; reason = Ahead (wanted_by look v) } ∷ ahead_edges look b vs) (ahead_edges look b vs))
        ≡ (c || list_any (λ (w : Wait). w.session == b) vs)
    at true rec = or_left (b == b) _ (eq-eqb b b refl)
    at false rec = rec

-- session b has an edge where it holds the wait up
pub edges-to-is : (look : Look) (s : Spot) (b : ℕ) → leads_to b (edges_to look s b) ≡ holds_up look s b
edges-to-is look s b = at (s.wait.session == b)
  where
    h : List Edge
    h = held_edges b (wanted_by look s.wait) (look b s.wait.resource)

    a : List Edge
    a = ahead_edges look b (ahead look s)

    at : (c : Bool) → leads_to b (cond c [] (held_edges b (wanted_by look s.wait) (look b s.wait.resource) ++ ahead_edges look b (ahead look s)))
        ≡ (not c && (not (fits_with (wanted_by look s.wait) (look b s.wait.resource)) || list_any (λ (w : Wait). w.session == b) (ahead look s)))
    at true = refl
    at false =
        list_any-append (λ (e : Edge). e.session == b) (held_edges b (wanted_by look s.wait) (look b s.wait.resource)) (ahead_edges look b (ahead look s))
        ∙ (λ i. held-is b (wanted_by look s.wait) (look b s.wait.resource) i || ahead-is look b (ahead look s) i)

-- ---- each is a true one

held-true : (b : ℕ) (wants : Mode) (o : Option Mode) (e : Edge) → Among e (held_edges b wants o) → (m : Mode) × (e ≡ record { session = b; reason = Holds m })
    × (o ≡ Some m) × (compatible wants m ≡ false)
held-true b wants None e m = absurd m
held-true b wants (Some h) e m = at (compatible wants h) refl m
  where
    one : Among e (record { session = b; reason = Holds h } ∷ []) → e ≡ record { session = b; reason = Holds h }
    one (inl k) = k
    one (inr n) = absurd n

    at : (c : Bool) → compatible wants h ≡ c → Among e (cond c [] (record { session = b; reason = Holds h } ∷ []))
        → (m : Mode) × (e ≡ record { session = b; reason = Holds m }) × (Some h ≡ Some m) × (compatible wants m ≡ false)
    at true is n = absurd n
    at false is n = (h, one n, refl, is)

ahead-true : (look : Look) (b : ℕ) (vs : List Wait) (e : Edge) → Among e (ahead_edges look b vs) → (v : Wait) × Among v vs × (v.session ≡ b)
    × (e ≡ record { session = b; reason = Ahead (wanted_by look v) })
ahead-true look b [] e m = absurd m
ahead-true look b (v ∷ vs) e m = at (v.session == b) refl m (ahead-true look b vs e)
  where
    Found : Type 0
    Found = (u : Wait) × Among u (v ∷ vs) × (u.session ≡ b) × (e ≡ record { session = b; reason = Ahead (wanted_by look u) })

    there : (Among e (ahead_edges look b vs) → (u : Wait) × Among u vs × (u.session ≡ b) × (e ≡ record { session = b; reason = Ahead (wanted_by look u) }))
        → Among e (ahead_edges look b vs)
        → (u : Wait) × Among u (v ∷ vs) × (u.session ≡ b) × (e ≡ record { session = b; reason = Ahead (wanted_by look u) })
    there rec n = let r = rec n in (r.0, inr r.1, r.2, r.3)

    head : (Among e (ahead_edges look b vs) → (u : Wait) × Among u vs × (u.session ≡ b) × (e ≡ record { session = b; reason = Ahead (wanted_by look u) }))
        → v.session ≡ b → Among e (record { session = b; reason = Ahead (wanted_by look v) } ∷ ahead_edges look b vs)
        → (u : Wait) × Among u (v ∷ vs) × (u.session ≡ b) × (e ≡ record { session = b; reason = Ahead (wanted_by look u) })
    head rec is (inl k) = (v, inl refl, is, k)
    head rec is (inr n) = there rec n

    at : (c : Bool) → (v.session == b) ≡ c
        → Among e (cond c (record { session = b; reason = Ahead (wanted_by look v) } ∷ ahead_edges look b vs) (ahead_edges look b vs))
        → (Among e (ahead_edges look b vs) → (u : Wait) × Among u vs × (u.session ≡ b) × (e ≡ record { session = b; reason = Ahead (wanted_by look u) }))
        → (u : Wait) × Among u (v ∷ vs) × (u.session ≡ b) × (e ≡ record { session = b; reason = Ahead (wanted_by look u) })
    at true is n rec = head rec (eqb-true v.session b is) n
    at false is n rec = there rec n

pub edges-to-true : (look : Look) (s : Spot) (b : ℕ) (e : Edge) → Among e (edges_to look s b) → (e.session ≡ b) × IsEdge look s e
edges-to-true look s b e m = at (s.wait.session == b) refl m
  where
    h : List Edge
    h = held_edges b (wanted_by look s.wait) (look b s.wait.resource)

    made : s.wait.session ≢ b → (r : Reason) → e ≡ record { session = b; reason = r } → IsReason look s b r → (e.session ≡ b) × IsEdge look s e
    made ne r is why = subst (λ (x : Edge). (x.session ≡ b) × IsEdge look s x) (sym is) (refl, (ne, why))

    parts : s.wait.session ≢ b → Among e (held_edges b (wanted_by look s.wait) (look b s.wait.resource)) ⊎ Among e (ahead_edges look b (ahead look s))
        → (e.session ≡ b) × IsEdge look s e
    parts ne (inl n) = let r = held-true b (wanted_by look s.wait) (look b s.wait.resource) e n in made ne (Holds r.0) r.1 (r.2, r.3)
    parts ne (inr n) = let r = ahead-true look b (ahead look s) e n in made ne (Ahead (wanted_by look r.0)) r.3 (r.0, r.1, r.2, refl)

    at : (c : Bool) → (s.wait.session == b) ≡ c
        → Among e (cond c [] (held_edges b (wanted_by look s.wait) (look b s.wait.resource) ++ ahead_edges look b (ahead look s)))
        → (e.session ≡ b) × IsEdge look s e
    at true is n = absurd n
    at false is n =
        parts (λ k. both_ways (s.wait.session == b) is (eq-eqb s.wait.session b k))
        (among-parts e (held_edges b (wanted_by look s.wait) (look b s.wait.resource)) (ahead_edges look b (ahead look s)) n)

pub edges-true : (n : ℕ) (look : Look) (s : Spot) (e : Edge) → Among e (edges_below n look s) → IsEdge look s e
edges-true zero look s e m = absurd m
edges-true (suc n) look s e m = ⊎_elim (λ h. edges-true n look s e h) (λ h. (edges-to-true look s n e h).1)
    (among-parts e (edges_below n look s) (edges_to look s n) m)

-- ---- and every true one is told

held-all : (b : ℕ) (wants : Mode) (o : Option Mode) (m : Mode) → o ≡ Some m → compatible wants m ≡ false
    → Among {A = Edge} (record { session = b; reason = Holds m }) (held_edges b wants o)
held-all b wants o m is no_fit =
    subst (λ x. Among {A = Edge} (record { session = b; reason = Holds m }) (held_edges b wants x)) (sym is)
    (subst (λ c. Among {A = Edge} (record { session = b; reason = Holds m }) (cond c [] (record { session = b; reason = Holds m } ∷ [])))
    (sym no_fit) (inl refl))

ahead-all : (look : Look) (b : ℕ) (vs : List Wait) (v : Wait) → Among v vs → v.session ≡ b
    → Among {A = Edge} (record { session = b; reason = Ahead (wanted_by look v) }) (ahead_edges look b vs)
ahead-all look b [] v m is = absurd m
ahead-all look b (w ∷ vs) v (inl k) is =
    subst (λ c. Among {A = Edge} (record { session = b; reason = Ahead (wanted_by look v) })
    (cond c (record { session = b; reason = Ahead (wanted_by look w) } ∷ ahead_edges look b vs) (ahead_edges look b vs)))
    (sym (eq-eqb w.session b (sym (ap (λ (x : Wait). x.session) k) ∙ is)))
    (inl (ap (λ (x : Wait). let e : Edge = record { session = b; reason = Ahead (wanted_by look x) } in e) k))
ahead-all look b (w ∷ vs) v (inr m) is = at (w.session == b) (ahead-all look b vs v m is)
  where
    at : (c : Bool) → Among {A = Edge} (record { session = b; reason = Ahead (wanted_by look v) }) (ahead_edges look b vs)
        → Among {A = Edge} (record { session = b; reason = Ahead (wanted_by look v) })
        (cond c (record { session = b; reason = Ahead (wanted_by look w) } ∷ ahead_edges look b vs) (ahead_edges look b vs))
    at true rec = inr rec
    at false rec = rec

edge-all : (look : Look) (s : Spot) (b : ℕ) (r : Reason) → s.wait.session ≢ b → IsReason look s b r
    → Among {A = Edge} (record { session = b; reason = r }) (edges_to look s b)
edge-all look s b r ne why =
    subst (λ c. Among {A = Edge} (record { session = b; reason = r })
    (cond c [] (held_edges b (wanted_by look s.wait) (look b s.wait.resource) ++ ahead_edges look b (ahead look s))))
    (sym (false_from_ne_true (s.wait.session == b) (λ h. ne (eqb-true s.wait.session b h)))) (by r why)
  where
    by : (r : Reason) → IsReason look s b r
        → Among {A = Edge} (record { session = b; reason = r })
        (held_edges b (wanted_by look s.wait) (look b s.wait.resource) ++ ahead_edges look b (ahead look s))
    by (Holds m) why = among-left _ _ _ (held-all b (wanted_by look s.wait) (look b s.wait.resource) m why.0 why.1)
    by (Ahead m) why =
        among-right _ (held_edges b (wanted_by look s.wait) (look b s.wait.resource)) _
        (subst (λ x. Among {A = Edge} (record { session = b; reason = Ahead x }) (ahead_edges look b (ahead look s))) (sym why.3)
        (ahead-all look b (ahead look s) why.0 why.1 why.2))

below-all : (n b : ℕ) (look : Look) (s : Spot) (e : Edge) → b < n → Among e (edges_to look s b) → Among e (edges_below n look s)
below-all zero b look s e lt m = absurd (omega (arith, lt))
below-all (suc n) b look s e lt m = at (grind (arith, lt)) (λ l. below-all n b look s e l m)
  where
    at : (b ≡ n) ⊎ (b < n) → (b < n → Among e (edges_below n look s)) → Among e (edges_below n look s ++ edges_to look s n)
    at (inl k) rec = among-right e (edges_below n look s) (edges_to look s n) (subst (λ x. Among e (edges_to look s x)) k m)
    at (inr l) rec = among-left e (edges_below n look s) (edges_to look s n) (rec l)

-- ---- among sessions below the number

-- whatever holds of each wait holds of those ahead
pub ahead-each : (P : Wait → Type 0) (look : Look) (s : Spot) → EachWait P (s.before ++ s.wait ∷ s.after) → EachWait P (ahead look s)
ahead-each P look s p = at (converts look s.wait)
  where
    at : (c : Bool) → EachWait P (cond c (filter (λ (w : Wait). same_resource w.resource s.wait.resource && converts look w) s.before)
        (filter (λ (w : Wait). same_resource w.resource s.wait.resource) s.before
        ++ filter (λ (w : Wait). same_resource w.resource s.wait.resource && converts look w) s.after))
    at true = wait-filter P _ s.before (wait-left P s.before (s.wait ∷ s.after) p)
    at false = wait-append P _ _ (wait-filter P _ s.before (wait-left P s.before (s.wait ∷ s.after) p))
        (wait-filter P _ s.after (wait-right P s.before (s.wait ∷ s.after) p).1)

module _ (count : ℕ) (look : Look) (s : Spot) (holders : (c : ℕ) (r : Resource) (m : Mode) → look c r ≡ Some m → c < count)
    (waiters : EachWait (λ v. v.session < count) (s.before ++ s.wait ∷ s.after)) where
  reason-below : (b : ℕ) (r : Reason) → IsReason look s b r → b < count
  reason-below b (Holds m) why = holders b s.wait.resource m why.0
  reason-below b (Ahead m) why =
      subst (λ x. x < count) why.2 (each-among (λ v. v.session < count) why.0 (ahead look s) (ahead-each (λ v. v.session < count) look s waiters) why.1)

  pub edges-all : (e : Edge) → IsEdge look s e → Among e (edges_below count look s)
  edges-all e is =
      below-all count e.session look s e (reason-below e.session e.reason is.1) (edge-all look s e.session e.reason is.0 is.1)

  -- the sessions told are those that hold the wait up
  pub edges-lead : (b : ℕ) → leads_to b (edges_below count look s) ≡ holds_up look s b
  edges-lead b = same-truth _ _ to from
    where
      to : leads_to b (edges_below count look s) ≡ true → holds_up look s b ≡ true
      to h =
          let r = leads-one b (edges_below count look s) h in
          let x = edges-true count look s r.0 r.1 in
          let e : Edge = r.0 in
          subst (λ c. holds_up look s c ≡ true) r.2
          (sym (edges-to-is look s e.session) ∙ leads-by e.session e (edges_to look s e.session) (edge-all look s e.session e.reason x.0 x.1) refl)

      from : holds_up look s b ≡ true → leads_to b (edges_below count look s) ≡ true
      from h =
          let r = leads-one b (edges_to look s b) (edges-to-is look s b ∙ h) in
          let x = edges-to-true look s b r.0 r.1 in
          leads-by b r.0 (edges_below count look s) (edges-all r.0 x.1) r.2

-- ---- the session's own wait

pub spot-is : (a : ℕ) (before after : List Wait) (s : Spot) → spot_of a (spots_from before after) ≡ Some s
    → IsSpot (before ++ after) s × (s.wait.session ≡ a)
spot-is a before [] s e = absurd (let x : None ≡ Some s = e in cc)
spot-is a before (w ∷ after) s e = at (w.session == a) refl (spot-is a (before ++ w ∷ []) after s)
  where
    here : Spot
    here = record { before = before; wait = w; after = after }

    at : (c : Bool) → (w.session == a) ≡ c
        → (spot_of a (spots_from (before ++ w ∷ []) after) ≡ Some s → IsSpot ((before ++ w ∷ []) ++ after) s × (s.wait.session ≡ a))
        → IsSpot (before ++ w ∷ after) s × (s.wait.session ≡ a)
    at true is rec =
        let k : Some here ≡ Some s = sym (ap (λ b. cond b (Some here) (spot_of a (spots_from (before ++ w ∷ []) after))) is) ∙ e in
        let same : here ≡ s = cc in
        subst (λ (x : Spot). IsSpot (before ++ w ∷ after) x × (x.wait.session ≡ a)) same (refl, eqb-true w.session a is)
    at false is rec =
        let r = rec (sym (ap (λ b. cond b (Some here) (spot_of a (spots_from (before ++ w ∷ []) after))) is) ∙ e) in
        (r.0 ∙ append_assoc before (w ∷ []) after, r.1)

-- where no session waits twice, a session waits for whom its own wait waits for
pub own-edges : (look : Look) (a b : ℕ) (before after : List Wait) (s : Spot) → Distinct after → spot_of a (spots_from before after) ≡ Some s
    → list_any (λ (t : Spot). (t.wait.session == a) && holds_up look t b) (spots_from before after) ≡ holds_up look s b
own-edges look a b before [] s d e = absurd (let x : None ≡ Some s = e in cc)
own-edges look a b before (w ∷ after) s d e = at (w.session == a) refl (own-edges look a b (before ++ w ∷ []) after s d.1)
  where
    here : Spot
    here = record { before = before; wait = w; after = after }

    rest : Bool
    rest = list_any (λ (t : Spot). (t.wait.session == a) && holds_up look t b) (spots_from (before ++ w ∷ []) after)

    or-none : (x y : Bool) → y ≡ false → (x || y) ≡ x
    or-none true y k = refl
    or-none false y k = k

    at : (c : Bool) → (w.session == a) ≡ c
        → (spot_of a (spots_from (before ++ w ∷ []) after) ≡ Some s
        → list_any (λ (t : Spot). (t.wait.session == a) && holds_up look t b) (spots_from (before ++ w ∷ []) after) ≡ holds_up look s b)
        → (((w.session == a) && holds_up look (record { before = before; wait = w; after = after }) b)
        || list_any (λ (t : Spot). (t.wait.session == a) && holds_up look t b) (spots_from (before ++ w ∷ []) after)) ≡ holds_up look s b
    at true is rec =
        let k : Some here ≡ Some s = sym (ap (λ c. cond c (Some here) (spot_of a (spots_from (before ++ w ∷ []) after))) is) ∙ e in
        let same : here ≡ s = cc in
        let none : list_any (λ (t : Spot). (t.wait.session == a) && holds_up look t b) (spots_from (before ++ w ∷ []) after) ≡ false =
        false_from_ne_true _ (λ h. let x = edge-from look (λ v. v.session ≢ w.session) a b (before ++ w ∷ []) after d.0 h in
        x.1 (x.2 ∙ sym (eqb-true w.session a is))) in
        ap (λ c. (c && holds_up look (record { before = before; wait = w; after = after }) b)
        || list_any (λ (t : Spot). (t.wait.session == a) && holds_up look t b) (spots_from (before ++ w ∷ []) after)) is
        ∙ or-none _ _ none ∙ ap (λ (t : Spot). holds_up look t b) same
    at false is rec =
        ap (λ c. (c && holds_up look (record { before = before; wait = w; after = after }) b)
        || list_any (λ (t : Spot). (t.wait.session == a) && holds_up look t b) (spots_from (before ++ w ∷ []) after)) is
        ∙ rec (sym (ap (λ c. cond c (Some here) (spot_of a (spots_from (before ++ w ∷ []) after))) is) ∙ e)

-- who waits has a wait
pub spot-found : (a : ℕ) (before after : List Wait) → waits_now after a ≡ true → (s : Spot) × (spot_of a (spots_from before after) ≡ Some s)
spot-found a before [] h = absurd (let x : false ≡ true = h in cc)
spot-found a before (w ∷ after) h = at (w.session == a) refl (spot-found a (before ++ w ∷ []) after)
  where
    at : (c : Bool) → (w.session == a) ≡ c
        → (waits_now after a ≡ true → (s : Spot) × (spot_of a (spots_from (before ++ w ∷ []) after) ≡ Some s))
        → (s : Spot) × (cond (w.session == a) (Some (record { before = before; wait = w; after = after })) (spot_of a (spots_from (before ++ w ∷ []) after))
        ≡ Some s)
    at true is rec = (
      record { before = before; wait = w; after = after },
      ap (λ b. cond b (Some (record { before = before; wait = w; after = after })) (spot_of a (spots_from (before ++ w ∷ []) after))) is,
    )
    at false is rec =
        let r = rec (sym (ap (λ b. b || waits_now after a) is) ∙ h) in (
          r.0,
          ap (λ b. cond b (Some (record { before = before; wait = w; after = after })) (spot_of a (spots_from (before ++ w ∷ []) after))) is ∙ r.1,
        )

-- ---- what is told of a session

pub want-found : (count : ℕ) (look : Look) (waits : List Wait) (a : ℕ) → waits_now waits a ≡ true → (want : Want) × (want_of count look waits a ≡ Some want)
want-found count look waits a h =
    let r = spot-found a [] waits h in (want_at count look r.0, ap (want_by count look) r.1)

-- who wants something waits
pub want-waits : (count : ℕ) (look : Look) (waits : List Wait) (a : ℕ) (want : Want) → want_of count look waits a ≡ Some want → waits_now waits a ≡ true
want-waits count look waits a want e = at (spot_of a (spots waits)) refl e
  where
    at : (o : Option Spot) → spot_of a (spots waits) ≡ o → want_by count look o ≡ Some want → waits_now waits a ≡ true
    at None is k = absurd (let x : None ≡ Some want = k in cc)
    at (Some s) is k =
        let p = spot-is a [] waits s is in
        subst (λ ws. waits_now ws a ≡ true) p.0
        (list_any-append (λ (v : Wait). v.session == a) s.before (s.wait ∷ s.after)
        ∙ or_right (waits_now s.before a) _ (or_left _ _ (eq-eqb s.wait.session a p.1)))

module _ (count : ℕ) (look : Look) (waits : List Wait) (distinct : Distinct waits) (holders : (c : ℕ) (r : Resource) (m : Mode) → look c r ≡ Some m → c < count)
    (waiters : EachWait (λ v. v.session < count) waits) where
  spot-exact : (a : ℕ) (s : Spot) → spot_of a (spots waits) ≡ Some s → IsExact look waits a (want_at count look s)
  spot-exact a s is =
      let p = spot-is a [] waits s is in
      let below = subst (EachWait (λ v. v.session < count)) (sym p.0) waiters in
      record {
        spot = s;
        there = p.0;
        own = p.1;
        resource = refl;
        mode = refl;
        asked = refl;
        has = ap (λ c. look c s.wait.resource) p.1;
        sessions = λ b. edges-lead count look s holders below b ∙ sym (own-edges look a b [] waits s distinct is);
        each = λ e m. edges-true count look s e m;
        all = λ e h. edges-all count look s holders below e h;
      }

  pub want-exact : (a : ℕ) (want : Want) → want_of count look waits a ≡ Some want → IsExact look waits a want
  want-exact a want e = at (spot_of a (spots waits)) refl e
    where
      at : (o : Option Spot) → spot_of a (spots waits) ≡ o → want_by count look o ≡ Some want → IsExact look waits a want
      at None is k = absurd (let x : None ≡ Some want = k in cc)
      at (Some s) is k =
          let same : want_at count look s ≡ want = cc in
          subst (IsExact look waits a) same (spot-exact a s is)

-- of every sound lock table
pub reasons-exact : ReasonsAreExact
reasons-exact count l sound below a = (
  ((λ h. want-found count (look_in l) l.waits a h), (λ x. want-waits count (look_in l) l.waits a x.0 x.1)),
  (λ want e. want-exact count (look_in l) l.waits sound.distinct holders below.waiters a want e),
)
  where
    holders : (c : ℕ) (r : Resource) (m : Mode) → look_in l c r ≡ Some m → c < count
    holders c r m has =
        let cases : (c < count) ⊎ (count ≤ c) = grind arith in
        ⊎_elim (λ lt. lt) (λ le. absurd (let x : None ≡ Some m = sym (below.holders c r le) ∙ has in cc)) cases
