-- A step sent leaves a sound world sound: settling ends, and no wait is ripe after it.
use Rattle.std.proofs.Common.{◌≡◌, ◌≢◌, refl, sym, ap, ◌∙◌, subst, ℕ, zero, suc, ◌+◌, ◌<◌, ◌≤◌, Bool, true, false, cond, ◌||◌, ◌==◌, List, [], ◌∷◌, ◌++◌}
use Rattle.std.proofs.Common.{length, set, get_or, Option, Some, None, ◌⊎◌, ⊎_elim, arith, length-set, append_assoc, append-nil, eqb-true, eq-eqb}
use Rattle.std.proofs.Common.{get_or-set_other, get_or-set_same}
use Rattle.std.proofs.lemmas.List.{get_or_past}
use Rattle.std.proofs.Math.Seq.{set_out}
use Rattle.std.specs.List.{list_any}
use Rattle.finite_maps.specs.Map.{get, insert, get-empty}
use Rattle.lock_modes.specs.Resource.{resource_order}
use Rattle.lock_modes.specs.Mode.{compatible}
use Rattle.lock_queues.specs.declared.wait.Wait.{Wait}
use Rattle.lock_queues.specs.Locks.{Spot, Look, fits, wanted, wanted_by, waits_for, closes_ring, way_below, waits_now, is_ripe, first_ripe, next_grant}
use Rattle.lock_queues.specs.Locks.{spots_from}
use Rattle.bound_statements.specs.Levels.{asked}
use Rattle.bound_statements.specs.Plan.{Request, request, nowait}
use Rattle.machine_model.specs.Session.{Task, Do, asks, behind, in_status, tasks_of, Session, note}
use Rattle.machine_model.specs.declared.status.Status.{Status}
use Rattle.machine_model.specs.Go.{Run, look_with, taking, go}
use Rattle.machine_model.specs.World.{World, fresh, session_at, look_of, scene_of, placed_back, goes, granted, settle, settle_for, left_of, left_to_do, noted}
use Rattle.machine_model.specs.World.{send}
use Rattle.bound_specs.specs.Spec.{Step, no_step}
use Rattle.machine_model.specs.Sound.{HeldTogether, NoRing, HoldsAll, IsIn, here, there, AllIn, Backed, UnderLocks, Ready, EachWait, Distinct, Steady, Sound}
use Rattle.lock_modes.specs.declared.mode.Mode.{Mode}
use Rattle.events.specs.declared.event.Event.TheVariants.{Sent, NotSent, Resumed}
use Rattle.lock_modes.specs.declared.resource.Resource.{Resource}
use Rattle.bound_statements.specs.declared.statement.Bound.{Bound}
use Rattle.machine_model.proofs.Basics.{both_true, known, not_both, cases-eq}
use Rattle.machine_model.specs.Footprint.{HeldFits}
use Rattle.lock_queues.proofs.Rings.{no-ring-past, no-way-from, way-is-found, edge-from, no-edge-from, edge-put, edge-off}
use Rattle.machine_model.proofs.Fitting.{fits-at, together-fits}
use Rattle.machine_model.proofs.Stronger.{stronger-taking, under-stronger, holds-stronger, covers-taking}
use Rattle.machine_model.proofs.Kept.{fits-inserted, Pending, GoodRun, go-good}
use Rattle.lock_modes.proofs.ModeLaws.{compatible-comm}
use Rattle.lock_queues.proofs.WaitLists.{wait-without, wait-map, wait-map2, Not, wait-append, distinct-push, distinct-without}

pub idle-each : (ws : List Wait) (i : ℕ) → waits_now ws i ≡ false → EachWait (λ v. v.session ≢ i) ws
idle-each [] i e = tt
idle-each (w ∷ ws) i e = at (w.session == i) refl (λ f. idle-each ws i f)
  where
    at : (b : Bool) → (w.session == i) ≡ b → (waits_now ws i ≡ false → EachWait (Not i) ws) → EachWait (Not i) (w ∷ ws)
    at true is rec = absurd (not_both _ (ap (λ b. b || list_any (λ v. v.session == i) ws) is) e)
    at false is rec = ((λ k. not_both _ (eq-eqb w.session i k) is), rec (sym (ap (λ b. b || list_any (λ v. v.session == i) ws) is) ∙ e))

-- ---- the world after a session has gone

pub session-there : (w : World) (i : ℕ) (r : Run) → i < length w.sessions → session_at (placed_back w i r) i ≡ r.session
session-there w i r lt = get_or-set_same w.sessions i r.session fresh lt

pub session-other : (w : World) (i c : ℕ) (r : Run) → c ≢ i → session_at (placed_back w i r) c ≡ session_at w c
session-other w i c r ne = get_or-set_other w.sessions i c r.session fresh ne

-- who holds a lock is a session
pub session-known : (w : World) (c : ℕ) (r : Resource) (m : Mode) → look_of w c r ≡ Some m → c < length w.sessions
session-known w c r m e =
    let cases : (c < length w.sessions) ⊎ (length w.sessions ≤ c) = grind arith in
    ⊎_elim (λ h. h) (λ h. absurd (let k = sym (get-empty resource_order Mode r) ∙ sym (ap (λ (s : Session). get s.held r) (get_or_past w.sessions c fresh h))
    ∙ e in cc)) cases

-- what lets a session go
pub record Entering (w : World) (i : ℕ) (s : Session) (ts : List Task) : Type 0 where
  pub steady : Steady w
  pub idle : EachWait (λ v. v.session ≢ i) w.waits
  pub known : i < length w.sessions
  pub fits : HeldFits (scene_of w) i s.held
  pub under : UnderLocks s.overlay s.held
  pub have : List Request
  pub holds : HoldsAll s.held have
  pub backed : Backed have ts

module _ (w : World) (i : ℕ) (s : Session) (ts : List Task) (en : Entering w i s ts) where
  pub run : GoodRun (scene_of w) i (length ts) (go (scene_of w) i s w.rows ts)
  run = go-good (scene_of w) i s w.rows ts en.have en.fits en.under en.holds en.backed

  abbrev its : Run
  its = go (scene_of w) i s w.rows ts

  here-look : (r : Resource) (m : Mode) (c : ℕ) → c ≡ i → look_of (goes w i s ts) c r ≡ Some m → get its.session.held r ≡ Some m
  here-look r m c k e = sym (ap (λ (x : Session). get x.held r) (ap (session_at (goes w i s ts)) k ∙ session-there w i its en.known)) ∙ e

  other-look : (r : Resource) (m : Mode) (c : ℕ) → c ≢ i → look_of (goes w i s ts) c r ≡ Some m → look_of w c r ≡ Some m
  other-look r m c ne e = sym (ap (λ (x : Session). get x.held r) (session-other w i c its ne)) ∙ e

  -- what the session holds fits beside what another holds
  beside : (r : Resource) (m n : Mode) (d : ℕ) → d ≢ i → get its.session.held r ≡ Some m → look_of w d r ≡ Some n → compatible m n ≡ true
  beside r m n d ne a b = fits-at (length w.sessions) (look_of w) i d r m n (session-known w d r n b) (λ e. ne (sym e)) b (run.fits.each r m a)

  goes-together : HeldTogether (look_of (goes w i s ts))
  goes-together c d r m n ne a b =
      ⊎_elim (λ k. beside r m n d (λ e. ne (k ∙ sym e)) (here-look r m c k a) (other-look r n d (λ e. ne (k ∙ sym e)) b))
      (λ k. ⊎_elim (λ l. compatible-comm m n ∙ beside r n m c k (here-look r n d l b) (other-look r m c k a)) (λ l.
      en.steady.together c d r m n ne (other-look r m c k a) (other-look r n d l b)) (cases-eq d i))
      (cases-eq c i)

  goes-under : (c : ℕ) → UnderLocks (session_at (goes w i s ts) c).overlay (session_at (goes w i s ts) c).held
  goes-under c =
      let P : Session → Type 0 = λ x. UnderLocks x.overlay x.held in
      ⊎_elim (λ k. subst P (sym (ap (session_at (goes w i s ts)) k ∙ session-there w i its en.known)) run.under)
      (λ k. subst P (sym (session-other w i c its k)) (en.steady.under c)) (cases-eq c i)

  still-ready : (v : Wait) → Ready w v → Not i v → Ready (goes w i s ts) v
  still-ready v x ne =
      let e : session_at (goes w i s ts) v.session ≡ session_at w v.session = session-other w i v.session its ne in
      record {
        known = subst (λ n. v.session < n) (sym (length-set w.sessions i its.session)) x.known;
        have = x.have;
        holds = subst (λ (y : Session). HoldsAll y.held x.have) (sym e) x.holds;
        backed = subst (λ (y : Session). Backed (request v.resource v.mode ∷ x.have) y.rest) (sym e) x.backed;
      }

  all-still-ready : EachWait (Ready (goes w i s ts)) w.waits
  all-still-ready = wait-map2 (Ready w) (Not i) (Ready (goes w i s ts)) still-ready w.waits en.steady.ready en.idle

  new-ready : (p : Pending (scene_of w) i (length ts) its) → Ready (goes w i s ts) (record { session = i; resource = p.resource; mode = p.mode })
  new-ready p =
      let e : session_at (goes w i s ts) i ≡ its.session = session-there w i its en.known in
      record {
        known = subst (λ n. i < n) (sym (length-set w.sessions i its.session)) en.known;
        have = p.have;
        holds = subst (λ (y : Session). HoldsAll y.held p.have) (sym e) p.holds;
        backed = subst (λ (y : Session). Backed (request p.resource p.mode ∷ p.have) y.rest) (sym e) p.backed;
      }

  goes-ready : EachWait (Ready (goes w i s ts)) (goes w i s ts).waits
  goes-ready =
      ⊎_elim (λ e. subst (EachWait (Ready (goes w i s ts))) (sym e) all-still-ready)
      (λ p. subst (EachWait (Ready (goes w i s ts))) (sym p.waits)
      (wait-append (Ready (goes w i s ts)) w.waits (record { session = i; resource = p.resource; mode = p.mode } ∷ []) all-still-ready (new-ready p, tt)))
      run.ends

  goes-distinct : Distinct (goes w i s ts).waits
  goes-distinct =
      ⊎_elim (λ e. subst Distinct (sym e) en.steady.distinct)
      (λ p. subst Distinct (sym p.waits) (distinct-push w.waits (record { session = i; resource = p.resource; mode = p.mode }) en.steady.distinct en.idle))
      run.ends

  -- the others' look-ups stay
  look-off : (c : ℕ) (r : Resource) → c ≢ i → look_of (goes w i s ts) c r ≡ look_of w c r
  look-off c r ne = ap (λ (x : Session). get x.held r) (session-other w i c its ne)

  ne-eqb : (v : ℕ) → v ≢ i → (i == v) ≡ false
  ne-eqb v ne = ⊎_elim (λ h. absurd (ne (sym (eqb-true i v h)))) (λ h. h) (known (i == v))

  look-is : look_with (scene_of w) i its.session.held ≡ look_of (goes w i s ts)
  look-is = λ k c r. at c r k
    where
      at : (c : ℕ) (r : Resource) → look_with (scene_of w) i its.session.held c r ≡ look_of (goes w i s ts) c r
      at c r =
          ⊎_elim (λ e. ap (λ b. cond b (get its.session.held r) (look_of w c r)) (eq-eqb c i e)
          ∙ sym (ap (λ (x : Session). get x.held r) (ap (session_at (goes w i s ts)) e ∙ session-there w i its en.known)))
          (λ ne. ap (λ b. cond b (get its.session.held r) (look_of w c r)) (⊎_elim (λ h. absurd (ne (eqb-true c i h))) (λ h. h) (known (c == i)))
          ∙ sym (look-off c r ne)) (cases-eq c i)

  goes-no-ring : NoRing (waits_for (look_of (goes w i s ts)) (goes w i s ts).waits)
  goes-no-ring = ⊎_elim at-end at-wait run.ends
    where
      at-end : its.waits ≡ w.waits → NoRing (waits_for (look_of (goes w i s ts)) its.waits)
      at-end e =
          let new = waits_for (look_of (goes w i s ts)) w.waits in
          subst (λ ws. NoRing (waits_for (look_of (goes w i s ts)) ws)) (sym e)
          (no-ring-past (waits_for (look_of w) w.waits) new i (λ a b na nb h.
          sym (edge-off (look_of w) (look_of (goes w i s ts)) i a b look-off nb w.waits en.idle) ∙ h)
          (no-way-from new i i (λ b. no-edge-from (look_of (goes w i s ts)) i b w.waits en.idle)) en.steady.no_ring)

      at-wait : Pending (scene_of w) i (length ts) its → NoRing (waits_for (look_of (goes w i s ts)) its.waits)
      at-wait p =
          let v : Wait = record { session = i; resource = p.resource; mode = p.mode } in
          let look = look_of (goes w i s ts) in
          let new = waits_for look (w.waits ++ v ∷ []) in
          let known' : EachWait (Ready (goes w i s ts)) (w.waits ++ v ∷ []) = subst (EachWait (Ready (goes w i s ts))) p.waits goes-ready in
          let low : (a b : ℕ) → new a b ≡ true → a < length w.sessions =
          λ a b h. (let x = edge-from look (Ready (goes w i s ts)) a b [] (w.waits ++ v ∷ []) known' h in
          subst (λ n. a < n) (length-set w.sessions i its.session) (subst (λ c. c < length (goes w i s ts).sessions) x.2 x.1.known)) in
          let ringless : way_below new (length w.sessions) i i ≡ false =
          subst (λ l. closes_ring (length w.sessions) l (w.waits ++ v ∷ []) i ≡ false) look-is p.ringless in
          subst (λ ws. NoRing (waits_for look ws)) (sym p.waits)
          (no-ring-past (waits_for (look_of w) w.waits) new i
          (λ a b na nb h. sym (edge-off (look_of w) look i a b look-off nb w.waits en.idle) ∙ sym (ap (λ ws. waits_for look ws a b) (append-nil w.waits))
          ∙ sym (edge-put look a b v (ne-eqb a na) (ne-eqb b nb) w.waits []) ∙ h)
          (λ way. not_both _ (way-is-found new (length w.sessions) low i i way) ringless) en.steady.no_ring)

  pub goes-steady : Steady (goes w i s ts)
  goes-steady = record { together = goes-together; under = goes-under; ready = goes-ready; distinct = goes-distinct; no_ring = goes-no-ring }

  left-same : (vs : List Wait) → EachWait (Not i) vs → left_of (set w.sessions i its.session) vs ≡ left_of w.sessions vs
  left-same [] n = refl
  left-same (v ∷ vs) n = λ k. suc (length (get_or-set_other w.sessions i v.session its.session fresh n.0 k).rest) + left-same vs n.1 k

  left-push : (ss : List Session) (us : List Wait) (v : Wait) → left_of ss (us ++ v ∷ []) ≡ left_of ss us + suc (length (get_or ss v.session fresh).rest)
  left-push ss [] v = omega arith
  left-push ss (u ∷ us) v = let h = left-push ss us v in omega arith

  -- the session leaves at most its own tasks to do
  pub goes-left : left_to_do (goes w i s ts) ≤ left_to_do w + length ts
  goes-left =
      ⊎_elim
      (λ e. let a : left_of (set w.sessions i its.session) its.waits ≡ left_of w.sessions w.waits = ap (left_of (set w.sessions i its.session)) e
      ∙ left-same w.waits en.idle in omega arith)
      (λ p.
      let v : Wait = record { session = i; resource = p.resource; mode = p.mode } in
      let a : left_of (set w.sessions i its.session) its.waits ≡ left_of (set w.sessions i its.session) (w.waits ++ v ∷ []) =
      ap (left_of (set w.sessions i its.session)) p.waits in
      let b = left-push (set w.sessions i its.session) w.waits v in
      let c = left-same w.waits en.idle in
      let d : length (get_or (set w.sessions i its.session) i fresh).rest ≡ length its.session.rest =
      ap (λ (x : Session). length x.rest) (session-there w i its en.known) in
      let h : length its.session.rest < length ts = p.shorter in
      omega arith)
      run.ends

  pub goes-count : length (goes w i s ts).sessions ≡ length w.sessions
  goes-count = length-set w.sessions i its.session

-- ---- a grant

pub record Grant (n : ℕ) (look : Look) (ws : List Wait) (s : Spot) : Type 0 where
  pub splits : ws ≡ s.before ++ s.wait ∷ s.after
  pub ripe : is_ripe n look s ≡ true

grant-from : (n : ℕ) (look : Look) (before after : List Wait) (s : Spot) → first_ripe n look (spots_from before after) ≡ Some s
    → Grant n look (before ++ after) s
grant-from n look before [] s e = cc
grant-from n look before (w ∷ after) s e = at (is_ripe n look here') refl (λ k. grant-from n look (before ++ w ∷ []) after s k)
  where
    here' : Spot
    here' = record { before = before; wait = w; after = after }

    at : (b : Bool) → is_ripe n look here' ≡ b → (first_ripe n look (spots_from (before ++ w ∷ []) after) ≡ Some s
        → Grant n look ((before ++ w ∷ []) ++ after) s) → Grant n look (before ++ w ∷ after) s
    at true is rec =
        let k : Some here' ≡ Some s = sym (ap (λ b. cond b (Some here') (first_ripe n look (spots_from (before ++ w ∷ []) after))) is) ∙ e in
        let same : here' ≡ s = cc in
        subst (Grant n look (before ++ w ∷ after)) same (record { splits = refl; ripe = is })
    at false is rec =
        let k : first_ripe n look (spots_from (before ++ w ∷ []) after) ≡ Some s =
        sym (ap (λ b. cond b (Some here') (first_ripe n look (spots_from (before ++ w ∷ []) after))) is) ∙ e in
        let g : Grant n look ((before ++ w ∷ []) ++ after) s = rec k in
        record { splits = sym (append_assoc before (w ∷ []) after) ∙ g.splits; ripe = g.ripe }

pub next-grant : (n : ℕ) (look : Look) (ws : List Wait) (s : Spot) → next_grant n look ws ≡ Some s → Grant n look ws s
next-grant n look ws s e = grant-from n look [] ws s e

-- ---- the world after a grant

left-without : (ss : List Session) (us : List Wait) (v : Wait) (vs : List Wait) → left_of ss (us ++ v ∷ vs)
    ≡ left_of ss (us ++ vs) + suc (length (get_or ss v.session fresh).rest)
left-without ss [] v vs = omega arith
left-without ss (u ∷ us) v vs = let h = left-without ss us v vs in omega arith

-- the waits are others, and each is ready
steady-waits : (w : World) (vs : List Wait) → Steady w → EachWait (Ready w) vs → Distinct vs → NoRing (waits_for (look_of w) vs)
    → Steady (record w { waits = vs })
steady-waits w vs st ready distinct no_ring =
    record {
      together = st.together;
      under = st.under;
      ready = wait-map (Ready w) (Ready (record w { waits = vs })) (λ v x. record { known = x.known; have = x.have; holds = x.holds; backed = x.backed }) vs
          ready;
      distinct = distinct;
      no_ring = no_ring;
    }

module _ (w : World) (spot : Spot) (st : Steady w) (g : Grant (length w.sessions) (look_of w) w.waits spot) where
  abbrev its_session : Session
  its_session = session_at w spot.wait.session

  waits-out : EachWait (Ready w) (spot.before ++ spot.after) × Ready w spot.wait
  waits-out = wait-without (Ready w) spot.before spot.wait spot.after (subst (EachWait (Ready w)) g.splits st.ready)

  distinct-out : Distinct (spot.before ++ spot.after) × EachWait (Not spot.wait.session) (spot.before ++ spot.after)
  distinct-out = distinct-without spot.before spot.wait spot.after (subst Distinct g.splits st.distinct)

  no-ring-out : NoRing (waits_for (look_of w) (spot.before ++ spot.after))
  no-ring-out =
      let i = spot.wait.session in
      let new = waits_for (look_of w) (spot.before ++ spot.after) in
      no-ring-past (waits_for (look_of w) (spot.before ++ spot.wait ∷ spot.after)) new i
      (λ a b na nb h. edge-put (look_of w) a b spot.wait (apart' i a na) (apart' i b nb) spot.before spot.after ∙ h)
      (no-way-from new i i (λ b. no-edge-from (look_of w) i b (spot.before ++ spot.after) distinct-out.1))
      (subst (λ ws. NoRing (waits_for (look_of w) ws)) g.splits st.no_ring)
    where
      apart' : (i v : ℕ) → v ≢ i → (i == v) ≡ false
      apart' i v ne = ⊎_elim (λ h. absurd (ne (sym (eqb-true i v h)))) (λ h. h) (known (i == v))

  abbrev without : World
  without = record w { waits = spot.before ++ spot.after }

  abbrev resumed : Session
  resumed = note (record (taking its_session spot.wait.resource spot.wait.mode) { rest = [] }) Resumed

  pub entering-granted : Entering without spot.wait.session resumed its_session.rest
  entering-granted =
      let r = spot.wait.resource in
      let m = spot.wait.mode in
      let h = its_session.held in
      record {
        steady = steady-waits w (spot.before ++ spot.after) st waits-out.0 distinct-out.0 no-ring-out;
        idle = distinct-out.1;
        known = waits-out.1.known;
        fits = fits-inserted (scene_of without) spot.wait.session h r (wanted (get h r) m)
            (both_true (fits (length w.sessions) (look_of w) spot.wait.session r (wanted_by (look_of w) spot.wait)) _ g.ripe).0
            (record { each = (together-fits w st.together spot.wait.session).each });
        under = under-stronger its_session.overlay h (insert h r (wanted (get h r) m)) (stronger-taking h r m) (st.under spot.wait.session);
        have = request r m ∷ waits-out.1.have;
        holds = (covers-taking h r m, holds-stronger h (insert h r (wanted (get h r) m)) (stronger-taking h r m) waits-out.1.have waits-out.1.holds);
        backed = waits-out.1.backed;
      }

  pub granted-steady : Steady (granted w spot)
  granted-steady = goes-steady without spot.wait.session resumed its_session.rest entering-granted

  pub granted-left : left_to_do (granted w spot) < left_to_do w
  granted-left =
      let a = goes-left without spot.wait.session resumed its_session.rest entering-granted in
      let b : left_of w.sessions w.waits ≡ left_of w.sessions (spot.before ++ spot.wait ∷ spot.after) = ap (left_of w.sessions) g.splits in
      let c = left-without w.sessions spot.before spot.wait spot.after in
      omega arith

pub sound-from : (w : World) → Steady w → next_grant (length w.sessions) (look_of w) w.waits ≡ None → Sound w
sound-from w st e = record { steady = st; unripe = e }

pub steady-of : (w : World) → Sound w → Steady w
steady-of w s = s.steady

pub none-left : (w : World) → left_to_do w ≤ 0 → next_grant (length w.sessions) (look_of w) w.waits ≡ None
none-left w le = ap (next_grant (length w.sessions) (look_of w)) (empty' w.waits le)
  where
    empty' : (vs : List Wait) → left_of w.sessions vs ≤ 0 → vs ≡ []
    empty' [] l = refl
    empty' (v ∷ vs) l = absurd (omega arith)

-- settling with enough fuel ends where no wait is ripe
pub settle_for-sound : (n : ℕ) (w : World) → Steady w → left_to_do w ≤ n → Sound (settle_for n w)
settle_for-sound zero w st le = sound-from w st (none-left w le)
settle_for-sound (suc n) w st le = at (next_grant (length w.sessions) (look_of w) w.waits) refl (λ spot g.
    settle_for-sound n (granted w spot) (granted-steady w spot st g) (let a = granted-left w spot st g in omega arith))
  where
    at : (o : Option Spot) → next_grant (length w.sessions) (look_of w) w.waits ≡ o
        → ((spot : Spot) → Grant (length w.sessions) (look_of w) w.waits spot → Sound (settle_for n (granted w spot)))
        → Sound (elim o [ None ↦ w | Some spot ↦ settle_for n (granted w spot) ])
    at None is rec = sound-from w st is
    at (Some spot) is rec = rec spot (next-grant (length w.sessions) (look_of w) w.waits spot is)

pub settle-sound : (w : World) → Steady w → Sound (settle w)
settle-sound w st = settle_for-sound (left_to_do w) w st (omega arith)

-- ---- a step is sent

abbrev pushed : List Request → List Request → List Request
pushed [] have = have
pushed (q ∷ qs) have = pushed qs (q ∷ have)

in-pushed : (q : Request) (qs have : List Request) → IsIn q have → IsIn q (pushed qs have)
in-pushed q [] have i = i
in-pushed q (p ∷ qs) have i = in-pushed q qs (p ∷ have) (there i)

all-pushed : (qs have : List Request) → AllIn qs (pushed qs have)
all-pushed [] have = tt
all-pushed (q ∷ qs) have = (in-pushed q qs (q ∷ have) here, all-pushed qs (q ∷ have))

backed-asks : (n : Bool) (qs have : List Request) (ts : List Task) → Backed (pushed qs have) ts → Backed have (asks n qs ts)
backed-asks n [] have ts b = b
backed-asks n (q ∷ qs) have ts b = backed-asks n qs (q ∷ have) ts b

-- the tasks of a step come after their requests
pub backed-tasks : (x : Status) (ss : List Bound) → Backed [] (tasks_of x ss)
backed-tasks x [] = tt
backed-tasks x (s ∷ ss) =
    let st = in_status x s in
    backed-asks (nowait st) (asked st) [] (Do st ∷ tasks_of (behind x s) ss) (all-pushed (asked st) [], backed-tasks (behind x s) ss)

-- a session that is sound and does not wait may go
pub entering : (w : World) (i : ℕ) (s : Session) (x : Status) (ss : List Bound) → Steady w → i < length w.sessions → waits_now w.waits i ≡ false → s.held
    ≡ (session_at w i).held → s.overlay ≡ (session_at w i).overlay → Entering w i s (tasks_of x ss)
entering w i s x ss st lt idle h o =
    record {
      steady = st;
      idle = idle-each w.waits i idle;
      known = lt;
      fits = subst (HeldFits (scene_of w) i) (sym h) (together-fits w st.together i);
      under = subst (λ h. UnderLocks s.overlay h) (sym h) (subst (λ o. UnderLocks o (session_at w i).held) (sym o) (st.under i));
      have = [];
      holds = tt;
      backed = backed-tasks x ss;
    }

-- a session is changed in its transcript alone
abbrev pub touched : World → ℕ → Session → World
touched w i s = record w { sessions = set w.sessions i s }

pub record Alike (s t : Session) : Type 0 where
  pub overlay : t.overlay ≡ s.overlay
  pub held : t.held ≡ s.held
  pub rest : t.rest ≡ s.rest

-- whatever holds of each session and of the changed one holds of each still
pub touched-same : (w : World) (i c : ℕ) (s : Session) (P : Session → Type 0) → (P (session_at w i) → P s) → P (session_at w c)
    → P (session_at (touched w i s) c)
touched-same w i c s P keep p =
    let a : (i < length w.sessions) ⊎ (length w.sessions ≤ i) = grind arith in
    ⊎_elim
    (λ lt. ⊎_elim (λ k. subst (λ d. P (session_at (touched w i s) d)) (sym k)
    (subst P (sym (get_or-set_same w.sessions i s fresh lt)) (keep (subst (λ d. P (session_at w d)) k p))))
    (λ k. subst P (sym (get_or-set_other w.sessions i c s fresh k)) p) (cases-eq c i))
    (λ le. subst (λ (ss : List Session). P (get_or ss c fresh)) (sym (set_out w.sessions i s le)) p) a

touched-look : (w : World) (i c : ℕ) (s : Session) (r : Resource) → s.held ≡ (session_at w i).held → look_of (touched w i s) c r ≡ look_of w c r
touched-look w i c s r e = touched-same w i c s (λ x. get x.held r ≡ look_of w c r) (λ p. ap (λ h. get h r) e ∙ p) refl

module _ (w : World) (i : ℕ) (s : Session) (same : Alike (session_at w i) s) where
  touched-ready : (v : Wait) → Ready w v → Ready (touched w i s) v
  touched-ready v x = record {
    known = subst (λ n. v.session < n) (sym (length-set w.sessions i s)) x.known;
    have = x.have;
    holds = touched-same w i v.session s (λ y. HoldsAll y.held x.have) (λ p. subst (λ h. HoldsAll h x.have) (sym same.held) p) x.holds;
    backed = touched-same w i v.session s (λ y. Backed (request v.resource v.mode ∷ x.have) y.rest) (λ p.
        subst (λ t. Backed (request v.resource v.mode ∷ x.have) t) (sym same.rest) p) x.backed;
  }

  pub touched-steady : Steady w → Steady (touched w i s)
  touched-steady st =
      record {
        together = λ c d r m n ne a b. st.together c d r m n ne (sym (touched-look w i c s r same.held) ∙ a) (sym (touched-look w i d s r same.held) ∙ b);
        under = λ c. touched-same w i c s (λ x. UnderLocks x.overlay x.held) (λ p.
            subst (λ o. UnderLocks o s.held) (sym same.overlay) (subst (λ h. UnderLocks (session_at w i).overlay h) (sym same.held) p)) (st.under c);
        ready = wait-map (Ready w) (Ready (touched w i s)) touched-ready w.waits st.ready;
        distinct = st.distinct;
        no_ring = subst (λ l. NoRing (waits_for l w.waits)) (λ k c r. sym (touched-look w i c s r same.held) k) st.no_ring;
      }

  pub touched-sound : Sound w → Sound (touched w i s)
  touched-sound sound =
      sound-from (touched w i s) (touched-steady (steady-of w sound))
      (ap (λ n. next_grant n (look_of (touched w i s)) w.waits) (length-set w.sessions i s)
      ∙ ap (λ l. next_grant (length w.sessions) l w.waits) (λ k c r. touched-look w i c s r same.held k) ∙ sound.unripe)

-- a step sent leaves a sound world sound
pub send-sound : (steps : List Step) (w : World) (k : ℕ) → Sound w → (get_or steps k no_step).session < length w.sessions → Sound (send steps w k)
send-sound steps w k sound lt = at (waits_now w.waits i) refl
  where
    i : ℕ
    i = (get_or steps k no_step).session

    ss : List Bound
    ss = (get_or steps k no_step).statements

    at : (b : Bool) → waits_now w.waits i ≡ b
        → Sound (elim b [ true ↦ noted w i (NotSent k) | false ↦ settle (goes w i (note (session_at w i) (Sent k)) (tasks_of (session_at w i).status ss)) ])
    at true is = touched-sound w i (note (session_at w i) (NotSent k)) (record { overlay = refl; held = refl; rest = refl }) sound
    at false is = settle-sound _ (goes-steady w i (note (session_at w i) (Sent k)) (tasks_of (session_at w i).status ss)
        (entering w i (note (session_at w i) (Sent k)) (session_at w i).status ss (steady-of w sound) lt is refl refl))
