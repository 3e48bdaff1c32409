-- The lock table behind each change of the waits.
use Rattle.std.specs.Prelude.{◌≡◌, ◌≢◌, refl, ℕ, zero, suc, ◌+◌, ◌<◌, ◌≤◌, Bool, true, false, cond, not, ◌==◌}
use Rattle.std.specs.Prelude.{Option, Some, None, Result, Ok, Err, OnErr, OnOk, ◌⊎◌}
use Rattle.std.specs.Prelude.{List, [], ◌∷◌, ◌++◌, length, get_or, take, drop, filter}
use Rattle.std.proofs.Common.{inl, inr, sym, ap, ◌∙◌, subst, arith, eqb-true, eq-eqb, nat_lt}
use Rattle.std.specs.declared.alloc.AllocError.{AllocError}
use Rattle.std.specs.List.{find, list_any, position, position_or_len, remove}
use Rattle.std.proofs.lemmas.Bool.{both_ways, ltb-false, or_parts}
use Rattle.std.proofs.lemmas.List.{map-append}
use Rattle.std.proofs.lemmas.List.Folds.{list_any_none}
use Rattle.std.proofs.lemmas.List.Quantifiers.{position-Some}
use Rattle.std.proofs.lemmas.List.Sums.{fails_before_first}
use Rattle.finite_maps.specs.Map.{Map, get, get-keep, insert, keep}
use Rattle.lock_modes.specs.declared.mode.Mode.{Mode}
use Rattle.lock_modes.specs.declared.resource.Resource.{Resource}
use Rattle.lock_queues.specs.declared.wait.Wait.{Wait}
use Rattle.lock_queues.specs.Locks.{Spot, wanted_by}
use Rattle.lock_queues.specs.LockTable.{Holding, Locks, grant, holding_order, let_go, look_at}
use Rattle.lock_queues.specs.Rules.{IsNext, IsNextOf, IsSpot}
use Rattle.lock_queues.specs.Sound.{Distinct, EachWait}
use Rattle.marked_lists.specs.Versions.{Versions}
use Rattle.numbered_specs.specs.Numbers.{resource_of}
use Rattle.marked_modes.specs.Held.{MarkedHolds, TakesSome}
use Rattle.marked_locks.specs.Queued.{GrantsOnly, LosesSome, MarkedTable, locks_of, marked_of, table_of, wait_of, waits_of}
use Rattle.marked_locks.specs.Kept.{IsKept}
use Rattle.marked_locks.specs.Places.{no_wait, spot_at}
use Rattle.marked_locks.specs.declared.wait.NumberedWait.{NumberedWait}
use Rattle.marked_locks.proofs.SeenLemmas.{at-spot, same-spot}

-- ---- no session twice

abbrev Not : ℕ → Wait → Type 0
Not i v = v.session ≢ i

-- what holds of each wait holds of the one at a place
each-at : (P : Wait → Type 0) (before : List Wait) (w : Wait) (after : List Wait) → EachWait P (before ++ w ∷ after) → P w
each-at P [] w after each = each.0
each-at P (v ∷ before) w after each = each-at P before w after each.1

same-wait : (b c : List Wait) (v w : Wait) (x y : List Wait) → Distinct (b ++ v ∷ x) → b ++ v ∷ x ≡ c ++ w ∷ y → v.session ≡ w.session
    → (b ≡ c) × (v ≡ w) × (x ≡ y)
same-wait [] [] v w x y distinct e same = (refl, cc, cc)
same-wait [] (k ∷ c) v w x y distinct e same =
    let heads : v ≡ k = cc in
    let tails : x ≡ c ++ w ∷ y = cc in
    absurd (each-at (Not v.session) c w y (subst (EachWait (Not v.session)) tails distinct.0) (sym same))
same-wait (h ∷ b) [] v w x y distinct e same =
    let heads : h ≡ w = cc in
    absurd (each-at (Not h.session) b v x distinct.0 (same ∙ ap (λ (u : Wait). u.session) (sym heads)))
same-wait (h ∷ b) (k ∷ c) v w x y distinct e same =
    let heads : h ≡ k = cc in
    let tails : b ++ v ∷ x ≡ c ++ w ∷ y = cc in
    let r = same-wait b c v w x y distinct.1 tails same in
    ((λ i. heads i ∷ r.0 i), r.1, r.2)

-- where no session waits twice, one wait is of a session
pub same-session : (waits : List Wait) (s t : Spot) → Distinct waits → IsSpot waits s → IsSpot waits t → s.wait.session ≡ t.wait.session → s ≡ t
same-session waits s t distinct p q same =
    let r = same-wait s.before t.before s.wait t.wait s.after t.after (subst Distinct (sym p) distinct) (p ∙ sym q) same in
    λ i. record { before = r.0 i; wait = r.1 i; after = r.2 i }

-- ---- what is left

-- without the wait at a place there are those before it and after it
pub removed-spot : (rs : List Resource) (ws : List NumberedWait) (k : ℕ)
    → waits_of rs (remove ws k) ≡ (spot_at rs ws k).before ++ (spot_at rs ws k).after
removed-spot rs ws k =
    let next : suc k ≡ k + 1 = omega arith in
    map-append (wait_of rs) (take k ws) (drop (suc k) ws) ∙ ap (λ n. waits_of rs (take k ws) ++ waits_of rs (drop n ws)) next

abbrev others : ℕ → List Wait → List Wait
others i ws = filter (λ (w : Wait). not (w.session == i)) ws

all-others : (i : ℕ) (ws : List Wait) → EachWait (Not i) ws → others i ws ≡ ws
all-others i [] n = refl
all-others i (w ∷ ws) n = at (w.session == i) refl (all-others i ws n.1)
  where
    at : (b : Bool) → (w.session == i) ≡ b → others i ws ≡ ws → cond (not b) (w ∷ others i ws) (others i ws) ≡ w ∷ ws
    at true e rest = absurd (n.0 (eqb-true w.session i e))
    at false e rest = ap (λ us. w ∷ us) rest

abbrev pub is_of_session : ℕ → NumberedWait → Bool
is_of_session i w = w.session == i

without : (rs : List Resource) (i : ℕ) (ws : List NumberedWait) (k : ℕ) → k < length ws → (get_or ws k no_wait).session ≡ i
    → ((j : ℕ) → j < k → is_of_session i (get_or ws j no_wait) ≡ false) → Distinct (waits_of rs ws) → waits_of rs (remove ws k) ≡ others i (waits_of rs ws)
without rs i [] k lt here before distinct = absurd (omega (arith, lt))
without rs i (w ∷ ws) zero lt here before distinct =
    at (w.session == i) (eq-eqb w.session i here)
    (sym (all-others i (waits_of rs ws) (subst (λ j. EachWait (Not j) (waits_of rs ws)) here distinct.0)))
  where
    at : (b : Bool) → b ≡ true → waits_of rs ws ≡ others i (waits_of rs ws)
        → waits_of rs ws ≡ cond (not b) (wait_of rs w ∷ others i (waits_of rs ws)) (others i (waits_of rs ws))
    at true e rest = rest
    at false e rest = cc
without rs i (w ∷ ws) (suc k) lt here before distinct =
    at (w.session == i) (before 0 (omega arith))
    (without rs i ws k (omega (arith, lt)) here (λ j less. before (suc j) (omega (arith, less))) distinct.1)
  where
    at : (b : Bool) → b ≡ false → waits_of rs (remove ws k) ≡ others i (waits_of rs ws)
        → wait_of rs w ∷ waits_of rs (remove ws k) ≡ cond (not b) (wait_of rs w ∷ others i (waits_of rs ws)) (others i (waits_of rs ws))
    at true e rest = cc
    at false e rest = ap (λ us. wait_of rs w ∷ us) rest

-- without the wait of a session there are those of the others
pub without-session : (rs : List Resource) (i : ℕ) (ws : List NumberedWait) (k : ℕ) → position (is_of_session i) ws ≡ Some k → Distinct (waits_of rs ws)
    → waits_of rs (remove ws k) ≡ others i (waits_of rs ws)
without-session rs i ws k at distinct =
    let found = position-Some (is_of_session i) ws k no_wait at in
    without rs i ws k found.0 (eqb-true _ i found.1) found.2 distinct

-- where none is found, no wait is of the session
none-found : (rs : List Resource) (i : ℕ) (ws : List NumberedWait) → position (is_of_session i) ws ≡ None → EachWait (Not i) (waits_of rs ws)
none-found rs i ws e = each ws absent
  where
    at : (b : Bool) → nat_lt (position_or_len (is_of_session i) ws) (length ws) ≡ b
        → ◌≡◌ {A = Option ℕ} (cond b (Some (position_or_len (is_of_session i) ws)) None) None → length ws ≤ position_or_len (is_of_session i) ws
    at true q h = cc
    at false q h = ltb-false _ _ q

    absent : list_any (is_of_session i) ws ≡ false
    absent = list_any_none (is_of_session i) ws
        (λ k d lt. let past = at (nat_lt (position_or_len (is_of_session i) ws) (length ws)) refl e in
        fails_before_first (is_of_session i) ws k d (omega (arith, past, lt)))

    each : (us : List NumberedWait) → list_any (is_of_session i) us ≡ false → EachWait (Not i) (waits_of rs us)
    each [] e = tt
    each (w ∷ us) e = let p = or_parts (w.session == i) _ e in ((λ k. both_ways _ p.0 (eq-eqb w.session i k)), each us p.1)

-- then none is found
pub find-none : (rs : List Resource) (i : ℕ) (ws : List NumberedWait) → position (is_of_session i) ws ≡ None
    → find (λ (w : Wait). w.session == i) (waits_of rs ws) ≡ None
find-none rs i ws e = at (waits_of rs ws) (none-found rs i ws e)
  where
    at : (us : List Wait) → EachWait (Not i) us → find (λ (w : Wait). w.session == i) us ≡ None
    at [] each = refl
    at (u ∷ us) each = on (u.session == i) refl (at us each.1)
      where
        on : (b : Bool) → (u.session == i) ≡ b → find (λ (w : Wait). w.session == i) us ≡ None
            → cond (u.session == i) (Some u) (find (λ (w : Wait). w.session == i) us) ≡ None
        on true is rest = absurd (each.0 (eqb-true u.session i is))
        on false is rest = ap (λ b. cond b (Some u) (find (λ (w : Wait). w.session == i) us)) is ∙ rest

-- where a wait of the session is found, it is the one of the table
pub find-some : (rs : List Resource) (i : ℕ) (ws : List NumberedWait) (k : ℕ) → position (is_of_session i) ws ≡ Some k
    → find (λ (w : Wait). w.session == i) (waits_of rs ws) ≡ Some (wait_of rs (get_or ws k no_wait))
find-some rs i ws k e =
    let found = position-Some (is_of_session i) ws k no_wait e in
    at ws k found.0 found.1 found.2
  where
    at : (us : List NumberedWait) (j : ℕ) → j < length us → is_of_session i (get_or us j no_wait) ≡ true
        → ((l : ℕ) → l < j → is_of_session i (get_or us l no_wait) ≡ false)
        → find (λ (w : Wait). w.session == i) (waits_of rs us) ≡ Some (wait_of rs (get_or us j no_wait))
    at [] j lt here before = absurd (omega (arith, lt))
    at (u ∷ us) zero lt here before =
        ap (λ b. cond b (Some (wait_of rs u)) (find (λ (w : Wait). w.session == i) (waits_of rs us))) here
    at (u ∷ us) (suc j) lt here before =
        ap (λ b. cond b (Some (wait_of rs u)) (find (λ (w : Wait). w.session == i) (waits_of rs us))) (before 0 (omega arith))
        ∙ at us j (omega (arith, lt)) here (λ l less. before (suc l) (omega (arith, less)))

-- then all are of the others
pub without-none : (rs : List Resource) (i : ℕ) (ws : List NumberedWait) → position (is_of_session i) ws ≡ None → waits_of rs ws ≡ others i (waits_of rs ws)
without-none rs i ws e = sym (all-others i (waits_of rs ws) (none-found rs i ws e))

-- and it is not next
pub none-next : (rs : List Resource) (i : ℕ) (held : Map holding_order Mode) (ws : List NumberedWait) → position (is_of_session i) ws ≡ None
    → IsNextOf (locks_of rs held ws) i → ⊥
none-next rs i held ws e next =
    each-at (Not i) next.0.before next.0.wait next.0.after (subst (EachWait (Not i)) (sym next.1.there) (none-found rs i ws e)) next.2

-- ---- the table behind a change

abbrev pub table_with : MarkedTable → Locks → MarkedTable
table_with t locks = record t { now = locks }

-- with these modes held, and these waits left
pub changed : (modes now : MarkedHolds) (waits left : Versions NumberedWait) (held : Map holding_order Mode) (us : List Wait)
    → now ≡ record modes { now = held } → left.marked ≡ waits.marked → waits_of modes.resources left.list ≡ us
    → table_of now left ≡ table_with (table_of modes waits) (record { held = held; waits = us })
changed modes now waits left held us modes-are marks-are waits-are =
    ap (λ (m : MarkedHolds). table_of m left) modes-are
    ∙ (λ i. let x : MarkedTable = record {
      resources = modes.resources;
      now = record { held = held; waits = waits-are i };
      marked = marked_of modes.resources modes.marked (marks-are i);
    } in x)

abbrev pub keep_others : ℕ → Map holding_order Mode → Map holding_order Mode
keep_others i held = keep (λ (h : Holding). not (h.0 == i)) held

-- all that the session held is some of it
takes-all : (i : ℕ) (held : Map holding_order Mode) → TakesSome i held (keep_others i held)
takes-all i held h = at (h.0 == i) refl
  where
    at : (b : Bool) → (h.0 == i) ≡ b → (get (keep_others i held) h ≡ get held h) ⊎ ((h.0 ≡ i) × (get (keep_others i held) h ≡ None))
    at true is =
        inr (eqb-true h.0 i is, get-keep (λ (x : Holding). not (x.0 == i)) held h ∙ ap (λ b. cond (not b) (get held h) None) is)
    at false is = inl (get-keep (λ (x : Holding). not (x.0 == i)) held h ∙ ap (λ b. cond (not b) (get held h) None) is)

module _ (modes now : MarkedHolds) (waits : Versions NumberedWait) (i : ℕ) (taken-is : now ≡ record modes { now = keep_others i modes.now }) where
  -- a session that does not wait lets go
  pub gone-none : position (is_of_session i) waits.list ≡ None → table_of now waits ≡ table_with (table_of modes waits) (let_go (table_of modes waits).now i)
  gone-none e =
      changed modes now waits waits (keep_others i modes.now) (others i (waits_of modes.resources waits.list)) taken-is refl
      (without-none modes.resources i waits.list e)

  -- one that waits does
  pub gone-waiting : (left : Versions NumberedWait) (k : ℕ) (result : Result (Unit {0}) AllocError) → IsKept modes waits
      → position (is_of_session i) waits.list ≡ Some k → OnOk result (left ≡ record waits { list = remove waits.list k })
      → OnOk result (table_of now left ≡ table_with (table_of modes waits) (let_go (table_of modes waits).now i))
  gone-waiting left k (Ok u) kept at removed =
      changed modes now waits left (keep_others i modes.now) (others i (waits_of modes.resources waits.list)) taken-is
      (ap (λ (v : Versions NumberedWait). v.marked) removed)
      (ap (λ (v : Versions NumberedWait). waits_of modes.resources v.list) removed
      ∙ without-session modes.resources i waits.list k at kept.now.sound.distinct)
  gone-waiting left k (Err e) kept at removed = tt

  -- where its wait could not be taken out, nobody waits
  pub gone-refused : (left : Versions NumberedWait) (result : Result (Unit {0}) AllocError) → OnErr result (left ≡ record waits { list = [] })
      → OnErr result (LosesSome i (table_of modes waits).now (table_of now left).now)
  gone-refused left (Ok u) cut = tt
  gone-refused left (Err e) cut = (
    ap (λ (v : Versions NumberedWait). waits_of now.resources v.list) cut,
    subst (λ (m : MarkedHolds). TakesSome i modes.now m.now) (sym taken-is) (takes-all i modes.now),
  )

-- the next wait is granted
module _ (modes now : MarkedHolds) (waits : Versions NumberedWait) (i k : ℕ) (m : Mode) (w : NumberedWait) (kept : IsKept modes waits)
    (at : position (is_of_session i) waits.list ≡ Some k) (there : get_or waits.list k no_wait ≡ w)
    (wanted-is : m ≡ wanted_by (look_at modes.now) (wait_of modes.resources w))
    (given-is : now ≡ record modes { now = insert modes.now (i, resource_of modes.resources w.resource) m }) where
  abbrev spot : Spot
  spot = spot_at modes.resources waits.list k

  of-session : (get_or waits.list k no_wait).session ≡ i
  of-session = eqb-true _ i (position-Some (is_of_session i) waits.list k no_wait at).1

  within : k < length waits.list
  within = (position-Some (is_of_session i) waits.list k no_wait at).0

  its-mode : m ≡ wanted_by (look_at modes.now) (wait_of modes.resources (get_or waits.list k no_wait))
  its-mode = wanted-is ∙ ap (λ v. wanted_by (look_at modes.now) (wait_of modes.resources v)) (sym there)

  the-spot : (s : Spot) → IsNext (table_of modes waits).now s → IsNextOf (table_of modes waits).now i → spot ≡ s
  the-spot s next of =
      let one = same-session (waits_of modes.resources waits.list) spot of.0 kept.now.sound.distinct (at-spot modes.resources waits.list k within) of.1.there
      (of-session ∙ sym of.2) in
      let first = same-spot (waits_of modes.resources waits.list) of.0 s of.1.there next.there (same-length of.0 s of.1 next) in
      one ∙ first
    where
      same-length : (s t : Spot) → IsNext (table_of modes waits).now s → IsNext (table_of modes waits).now t → length s.before ≡ length t.before
      same-length s t p q =
          let le = p.earliest t q.there q.ripe in
          let ge = q.earliest s p.there p.ripe in
          omega (arith, le, ge)

  pub granted-next : (left : Versions NumberedWait) (result : Result (Unit {0}) AllocError) → IsNextOf (table_of modes waits).now i
      → OnOk result (left ≡ record waits { list = remove waits.list k })
      → OnOk result ((s : Spot) → IsNext (table_of modes waits).now s
      → table_of now left ≡ table_with (table_of modes waits) (grant (table_of modes waits).now s))
  granted-next left (Err e) of removed = tt
  granted-next left (Ok u) of removed = λ s next.
      changed modes now waits left (insert modes.now (i, resource_of modes.resources w.resource) m) (spot.before ++ spot.after) given-is
      (ap (λ (v : Versions NumberedWait). v.marked) removed)
      (ap (λ (v : Versions NumberedWait). waits_of modes.resources v.list) removed ∙ removed-spot modes.resources waits.list k)
      ∙ (λ j. table_with (table_of modes waits) (record {
        held = insert modes.now (sym of-session j, resource_of modes.resources (sym there j).resource) (its-mode j);
        waits = spot.before ++ spot.after;
      }))
      ∙ ap (λ t. table_with (table_of modes waits) (grant (table_of modes waits).now t)) (the-spot s next of)

  -- where its wait could not be taken out, nobody waits
  pub granted-refused : (left : Versions NumberedWait) (result : Result (Unit {0}) AllocError) → IsNextOf (table_of modes waits).now i
      → OnErr result (left ≡ record waits { list = [] }) → OnErr result (GrantsOnly (table_of modes waits).now (table_of now left).now)
  granted-refused left (Ok u) of cut = tt
  granted-refused left (Err e) of cut = λ s next.
      inr (ap (λ (t : MarkedTable). t.now)
      (changed modes now waits left (insert modes.now (i, resource_of modes.resources w.resource) m) [] given-is
      (ap (λ (v : Versions NumberedWait). v.marked) cut) (ap (λ (v : Versions NumberedWait). waits_of modes.resources v.list) cut))
      ∙ (λ j. let x : Locks = record {
        held = insert modes.now (sym of-session j, resource_of modes.resources (sym there j).resource) (its-mode j);
        waits = [];
      } in x)
      ∙ ap (λ t. let x : Locks = record (grant (table_of modes waits).now t) { waits = [] } in x) (the-spot s next of))

  -- what its table keeps
  abbrev without-it : Versions NumberedWait
  without-it = record waits { list = remove waits.list k }

  pub granted-held : (of : IsNextOf (table_of modes waits).now i) → now.now ≡ (grant (table_of modes waits).now of.0).held
  granted-held of = ap (λ (t : MarkedTable). t.now.held) (granted-next without-it (Ok tt) of refl of.0 of.1)
