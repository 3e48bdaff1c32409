-- What is told of a refused request: a ring that its wait would have closed, or what it could not have and refused to wait for.
use Rattle.std.proofs.Common.{◌≡◌, ◌≢◌, refl, sym, ap, ◌∙◌, subst, ℕ, ◌<◌, Bool, true, false, ◌==◌, if◌then◌else◌, List, [], ◌∷◌, ◌++◌, length, get_or}
use Rattle.std.proofs.Common.{cond, append_assoc, append-nil, eqb-true, eq-eqb, Option, Some, None}
use Rattle.std.proofs.lemmas.Bool.{false_from_ne_true}
use Rattle.finite_maps.specs.Map.{get}
use Rattle.lock_modes.specs.declared.mode.Mode.{Mode}
use Rattle.lock_modes.specs.declared.resource.Resource.{Resource}
use Rattle.lock_modes.specs.Rows.{Rows'}
use Rattle.lock_queues.specs.declared.wait.Wait.{Wait}
use Rattle.lock_queues.specs.Locks.{Look, Spot, spots_from, wanted, closes_ring, may_have}
use Rattle.lock_queues.specs.Rules.{IsSpot}
use Rattle.lock_queues.specs.Sound.{Distinct, EachWait}
use Rattle.lock_queues.specs.Reasons.{Want, want_at, want_by, spot_of, Among, IsExact, last_spot}
use Rattle.lock_queues.specs.declared.told.Hop.{Hop}
use Rattle.lock_queues.specs.Rings.{ring_told, IsRingTold}
use Rattle.lock_queues.proofs.WaitLists.{distinct-push, distinct-without, wait-append, wait-left, wait-map}
use Rattle.lock_queues.proofs.Edges.{want-exact}
use Rattle.lock_queues.proofs.Hops.{ring-told}
use Rattle.bound_specs.specs.Spec.{Step, no_step}
use Rattle.events.specs.declared.event.Event.TheVariants.{Sent, Resumed}
use Rattle.events.specs.declared.event.Fault.{Fault}
use Rattle.machine_model.specs.declared.reply.Reply.{Reply}
use Rattle.machine_model.specs.declared.reply.Reply.TheVariants.{Had as IsHad, Waits, Refused}
use Rattle.machine_model.specs.Session.{Session, Held, Task, Ask, Do, Performed, Goes, Fails, kind, perform, note, tasks_of}
use Rattle.machine_model.specs.Go.{Scene, taking, is_broken, replied, reply_in, look_with, waiting_with}
use Rattle.machine_model.specs.World.{World, session_at, look_of, scene_of}
use Rattle.machine_model.specs.Sound.{Sound, Ready}
use Rattle.machine_model.proofs.Settles.{Entering, entering, entering-granted, steady-of, session-known}
use Rattle.line_moments.specs.declared.moment.Change.{Change}
use Rattle.line_moments.specs.declared.moment.Change.TheVariants.{Had}
use Rattle.line_moments.specs.Moments.{let_go, changed, did_changes, go_changes, Going, behind, line_goings}
use Rattle.line_moments.specs.declared.moment.Refusal.{Refusal}
use Rattle.line_moments.specs.declared.moment.Refusal.TheVariants.{Closes, Wants}
use Rattle.line_moments.specs.declared.moment.Ending.TheVariants.{Loses, Lacks}
use Rattle.line_moments.specs.Moments.{refusal, go_refusal, refusal_by, told_only, holding, without, ending_by}
use Rattle.line_moments.specs.Moments.{moment_of, want_in, session_by, scene_by, IsLost, IsLacking, changes_along, granted_by, going_by, Does, tasks_by}
use Rattle.line_moments.specs.Laws.{MomentsLose, MomentsLack}
use Rattle.bound_statements.specs.declared.statement.Bound.{Bound}
use Rattle.line_moments.proofs.Holding.{HeldAfter, did-changed, changed-append}
use Rattle.line_moments.proofs.Waiting.{line-each}

-- ---- a session goes

-- the request that was refused, for this reason
record HasRefusal (e : Scene) (i : ℕ) (s : Session) (rows : Rows') (tasks : List Task) (changes : List Change) (x : Refusal) : Type 0 where
  pub done : List Task
  pub nowait : Bool
  pub resource : Resource
  pub mode : Mode
  pub rest : List Task
  pub asked : tasks ≡ done ++ Ask nowait resource mode ∷ rest
  pub session : Session
  pub there : Rows'
  pub does : Does e i s rows done session there
  pub fault : Fault
  pub is : replied (may_have e.count e.look e.waits i (get session.held resource) resource mode) nowait
      (closes_ring e.count (look_with e i session.held) (waiting_with e i resource mode) i) ≡ Refused fault
  pub told : refusal e i session.held nowait resource mode ≡ x
  pub held : session.held ≡ changed s.held (changes_along s.held done)
  pub changes_are : changes ≡ changes_along s.held done ++ let_go session.held

-- the same, behind a request that is had
ask-behind : (e : Scene) (i : ℕ) (s : Session) (rows : Rows') (nowait : Bool) (r : Resource) (m : Mode) (ts : List Task) (changes : List Change)
    (y : Refusal) → is_broken s.status ≡ false → may_have e.count e.look e.waits i (get s.held r) r m ≡ true
    → HasRefusal e i (taking s r m) rows ts changes y → HasRefusal e i s rows (Ask nowait r m ∷ ts) (Had r (wanted (get s.held r) m) ∷ changes) y
ask-behind e i s rows nowait r m ts changes y sane had x =
    record {
      done = Ask nowait r m ∷ x.done;
      nowait = x.nowait;
      resource = x.resource;
      mode = x.mode;
      rest = x.rest;
      asked = ap (λ us. Ask nowait r m ∷ us) x.asked;
      session = x.session;
      there = x.there;
      does = (sane, had, x.does);
      fault = x.fault;
      is = x.is;
      told = x.told;
      held = x.held;
      changes_are = ap (λ cs. Had r (wanted (get s.held r) m) ∷ cs) x.changes_are;
    }

-- and behind a statement that goes
do-behind : (e : Scene) (i : ℕ) (s s2 : Session) (rows rows2 : Rows') (st : Bound) (ts : List Task) (changes : List Change) (y : Refusal)
    → perform s rows st ≡ Goes s2 rows2 → changed s.held (did_changes (kind st) s.held) ≡ s2.held
    → HasRefusal e i s2 rows2 ts changes y → HasRefusal e i s rows (Do st ∷ ts) (did_changes (kind st) s.held ++ changes) y
do-behind e i s s2 rows rows2 st ts changes y made is x =
    let front = did_changes (kind st) s.held in
    let more = changes_along (changed s.held front) x.done in
    let held : x.session.held ≡ changed (changed s.held front) more =
    subst (λ h. x.session.held ≡ changed h (changes_along h x.done)) (sym is) x.held in
    let along : changes ≡ more ++ let_go x.session.held =
    subst (λ h. changes ≡ changes_along h x.done ++ let_go x.session.held) (sym is) x.changes_are in
    record {
      done = Do st ∷ x.done;
      nowait = x.nowait;
      resource = x.resource;
      mode = x.mode;
      rest = x.rest;
      asked = ap (λ us. Do st ∷ us) x.asked;
      session = x.session;
      there = x.there;
      does = (s2, rows2, made, x.does);
      fault = x.fault;
      is = x.is;
      told = x.told;
      held = held ∙ sym (changed-append s.held front more);
      changes_are = ap (λ cs. front ++ cs) along ∙ sym (append_assoc front more (let_go x.session.held));
    }

-- what is had may be had
pub had-may : (had nowait closes : Bool) → replied had nowait closes ≡ IsHad → had ≡ true
had-may true nowait closes e = refl
had-may false true closes e = absurd (let x : Refused _ ≡ IsHad = e in cc)
had-may false false true e = absurd (let x : Refused _ ≡ IsHad = e in cc)
had-may false false false e = absurd (let x : Waits ≡ IsHad = e in cc)

go-refused : (e : Scene) (i : ℕ) (s : Session) (rows : Rows') (ts : List Task) (y : Refusal) → go_refusal e i s rows ts ≡ Some y
    → HasRefusal e i s rows ts (go_changes e i s rows ts) y
go-refused e i s rows [] y k = absurd (let x : None ≡ Some y = k in cc)
go-refused e i s rows (Ask nowait r m ∷ ts) y k = at (is_broken s.status) (reply_in e i s nowait r m) refl refl k
    (go-refused e i (taking s r m) rows ts y)
  where
    at : (b : Bool) (a : Reply) → is_broken s.status ≡ b → reply_in e i s nowait r m ≡ a
        → (let o : Option Refusal = elim b [
          | true ↦ None
          | false ↦ elim a [
            | IsHad ↦ go_refusal e i (taking s r m) rows ts
            | Waits ↦ None
            | Refused f ↦ Some (refusal e i s.held nowait r m)
          ]
        ] in o) ≡ Some y
        → (go_refusal e i (taking s r m) rows ts ≡ Some y → HasRefusal e i (taking s r m) rows ts (go_changes e i (taking s r m) rows ts) y)
        → HasRefusal e i s rows (Ask nowait r m ∷ ts) (elim b [
          | true ↦ let_go s.held
          | false ↦ elim a [ IsHad ↦ Had r (wanted (get s.held r) m) ∷ go_changes e i (taking s r m) rows ts | Waits ↦ [] | Refused f ↦ let_go s.held ]
        ]) y
    at true a broken is h rec = absurd (let x : None ≡ Some y = h in cc)
    at false IsHad broken is h rec =
        ask-behind e i s rows nowait r m ts (go_changes e i (taking s r m) rows ts) y broken (had-may _ nowait _ is) (rec h)
    at false Waits broken is h rec = absurd (let x : None ≡ Some y = h in cc)
    at false (Refused f) broken is h rec =
        record {
          done = [];
          nowait = nowait;
          resource = r;
          mode = m;
          rest = ts;
          asked = refl;
          session = s;
          there = rows;
          does = (refl, refl);
          fault = f;
          is = is;
          told = (let x : Some (refusal e i s.held nowait r m) ≡ Some y = h in cc);
          held = refl;
          changes_are = refl;
        }
go-refused e i s rows (Do st ∷ ts) y k = at (perform s rows st) refl k (did-changed s.status (kind st) s rows st) (λ s2 rows2. go-refused e i s2 rows2 ts y)
  where
    at : (p : Performed) → perform s rows st ≡ p
        → (let o : Option Refusal = elim p [ Goes s2 rows2 ↦ go_refusal e i s2 rows2 ts | Fails f ↦ None ] in o) ≡ Some y
        → HeldAfter (changed s.held (did_changes (kind st) s.held)) p
        → ((s2 : Session) (rows2 : Rows') → go_refusal e i s2 rows2 ts ≡ Some y → HasRefusal e i s2 rows2 ts (go_changes e i s2 rows2 ts) y)
        → HasRefusal e i s rows (Do st ∷ ts) (elim p [ Goes s2 rows2 ↦ did_changes (kind st) s.held ++ go_changes e i s2 rows2 ts | Fails f ↦ let_go s.held ]) y
    at (Goes s2 rows2) made h is rec = do-behind e i s s2 rows rows2 st ts (go_changes e i s2 rows2 ts) y made is (rec s2 rows2 h)
    at (Fails f) made h is rec = absurd (let x : None ≡ Some y = h in cc)

-- ---- what a refusal tells

-- a request whose refusal tells a ring could not be had, would wait, and its wait closes that ring
replied-ring : (had nowait closes : Bool) (f : Fault) (ring hs : List Hop) (own : Want) → replied had nowait closes ≡ Refused f
    → (let y : Refusal = elim nowait [ true ↦ Wants own | false ↦ Closes ring ] in y) ≡ Closes hs
    → (had ≡ false) × (closes ≡ true) × (ring ≡ hs) × (nowait ≡ false)
replied-ring true nowait closes f ring hs own e k = absurd (let x : IsHad ≡ Refused f = e in cc)
replied-ring false true closes f ring hs own e k = absurd (let x : Wants own ≡ Closes hs = k in cc)
replied-ring false false true f ring hs own e k = (refl, refl, cc, refl)
replied-ring false false false f ring hs own e k = absurd (let x : Waits ≡ Refused f = e in cc)

-- one whose refusal tells what it wants could not be had, and refuses to wait
replied-lack : (had nowait closes : Bool) (f : Fault) (ring : List Hop) (own want : Want) → replied had nowait closes ≡ Refused f
    → (let y : Refusal = elim nowait [ true ↦ Wants own | false ↦ Closes ring ] in y) ≡ Wants want
    → (had ≡ false) × (own ≡ want) × (nowait ≡ true)
replied-lack true nowait closes f ring own want e k = absurd (let x : IsHad ≡ Refused f = e in cc)
replied-lack false true closes f ring own want e k = (refl, cc, refl)
replied-lack false false closes f ring own want e k = absurd (let x : Closes ring ≡ Wants want = k in cc)

-- behind waits of others a session's wait is found
spot-behind : (before ws : List Wait) (v : Wait) (after : List Wait) → EachWait (λ u. u.session ≢ v.session) ws
    → spot_of v.session (spots_from before (ws ++ v ∷ after)) ≡ Some (record { before = before ++ ws; wait = v; after = after })
spot-behind before [] v after idle =
    let here : Spot = record { before = before; wait = v; after = after } in
    let same : ◌≡◌ {A = Spot} (record { before = before ++ []; wait = v; after = after }) here = (λ k.
    record { before = append-nil before k; wait = v; after = after }) in
    ap (λ b. cond b (Some here) (spot_of v.session (spots_from (before ++ v ∷ []) after))) (eq-eqb v.session v.session refl) ∙ ap Some (sym same)
spot-behind before (w ∷ ws) v after idle =
    ap (λ b. cond b (Some (record { before = before; wait = w; after = ws ++ v ∷ after })) (spot_of v.session (spots_from (before ++ w ∷ []) (ws ++ v ∷ after))))
    (false_from_ne_true (w.session == v.session) (λ h. idle.0 (eqb-true w.session v.session h)))
    ∙ spot-behind (before ++ w ∷ []) ws v after idle.1
    ∙ (λ k. Some (record { before = append_assoc before (w ∷ []) ws k; wait = v; after = after }))

-- and it is the only one
spot-only : (waits : List Wait) (i : ℕ) (s found : Spot) → Distinct waits → IsSpot waits s → s.wait.session ≡ i
    → spot_of i (spots_from [] waits) ≡ Some found → s ≡ found
spot-only waits i s found distinct there own e = let k : Some s ≡ Some found = same in cc
  where
    d : Distinct (s.before ++ s.wait ∷ s.after)
    d = subst Distinct (sym there) distinct

    idle : EachWait (λ u. u.session ≢ s.wait.session) s.before
    idle = wait-left (λ u. u.session ≢ s.wait.session) s.before s.after (distinct-without s.before s.wait s.after d).1

    is : spot_of i (spots_from [] waits) ≡ Some s
    is =
        subst (λ c. spot_of c (spots_from [] waits) ≡ Some s) own
        (subst (λ ws. spot_of s.wait.session (spots_from [] ws) ≡ Some s) there (spot-behind [] s.before s.wait s.after idle))

    same : Some s ≡ Some found
    same = sym is ∙ e

-- in a world where it may go
module _ (w : World) (i : ℕ) (s u : Session) (ts : List Task) (changes : List Change) (en : Entering w i s ts) where
  all-distinct : (r : Resource) (m : Mode) → Distinct (waiting_with (scene_of w) i r m)
  all-distinct r m = distinct-push w.waits (record { session = i; resource = r; mode = m }) en.steady.distinct en.idle

  refused-lost : (hs : List Hop) → HasRefusal (scene_of w) i u w.rows ts changes (Closes hs) → IsLost (scene_of w) i u w.rows ts changes hs
  refused-lost hs x =
      let waits = waiting_with (scene_of w) i x.resource x.mode in
      let look = look_with (scene_of w) i x.session.held in
      let own = want_at (length w.sessions) look (last_spot w.waits i x.resource x.mode) in
      let p = replied-ring _ x.nowait _ x.fault (ring_told (length w.sessions) look waits i) hs own x.is x.told in
      record {
        done = x.done;
        resource = x.resource;
        mode = x.mode;
        rest = x.rest;
        asked = x.asked ∙ ap (λ n. x.done ++ Ask n x.resource x.mode ∷ x.rest) p.3;
        session = x.session;
        there = x.there;
        does = x.does;
        refused = p.0;
        closes = p.1;
        told = subst (IsRingTold (length w.sessions) look waits i) p.2
            (ring-told (length w.sessions) look waits i en.known (all-distinct x.resource x.mode) p.1);
        held = x.held;
        changes_are = x.changes_are;
      }

  -- who holds a lock is a session, and so is who waits
  held-known : (held : Held) (c : ℕ) (r : Resource) (m : Mode) → look_with (scene_of w) i held c r ≡ Some m → c < length w.sessions
  held-known held c r m e = at (c == i) refl e
    where
      at : (b : Bool) → (c == i) ≡ b → (if b then get held r else look_of w c r) ≡ Some m → c < length w.sessions
      at true is k = subst (λ n. n < length w.sessions) (sym (eqb-true c i is)) en.known
      at false is k = session-known w c r m k

  waits-known : (r : Resource) (m : Mode) → EachWait (λ v. v.session < length w.sessions) (waiting_with (scene_of w) i r m)
  waits-known r m =
      wait-append (λ v. v.session < length w.sessions) w.waits (record { session = i; resource = r; mode = m } ∷ [])
      (wait-map (Ready w) (λ v. v.session < length w.sessions) (λ v x. x.known) w.waits en.steady.ready) (en.known, tt)

  refused-lacking : (want : Want) → HasRefusal (scene_of w) i u w.rows ts changes (Wants want) → IsLacking (scene_of w) i u w.rows ts changes want
  refused-lacking want x =
      let waits = waiting_with (scene_of w) i x.resource x.mode in
      let look : Look = look_with (scene_of w) i x.session.held in
      let spot : Spot = last_spot w.waits i x.resource x.mode in
      let own : Want = want_at (length w.sessions) look spot in
      let p = replied-lack _ x.nowait _ x.fault (ring_told (length w.sessions) look waits i) own want x.is x.told in
      let distinct = all-distinct x.resource x.mode in
      let found : spot_of i (spots_from [] waits) ≡ Some spot = spot-behind [] w.waits spot.wait [] en.idle in
      let exact : IsExact look waits i own = want-exact (length w.sessions) look waits distinct (held-known x.session.held) (waits-known x.resource x.mode) i own
      (ap (want_by (length w.sessions) look) found) in
      subst (IsLacking (scene_of w) i u w.rows ts changes) p.1
      (record {
        done = x.done;
        resource = x.resource;
        mode = x.mode;
        rest = x.rest;
        asked = x.asked ∙ ap (λ n. x.done ++ Ask n x.resource x.mode ∷ x.rest) p.2;
        session = x.session;
        there = x.there;
        does = x.does;
        refused = p.0;
        told_resource = refl;
        told_mode = ap (λ b. wanted (if b then get x.session.held x.resource else look_of w i x.resource) x.mode) (eq-eqb i i refl);
        told_asked = refl;
        told_has = ap (λ b. if b then get x.session.held x.resource else look_of w i x.resource) (eq-eqb i i refl);
        exact = exact;
        last = spot-only waits i exact.spot spot distinct exact.there exact.own found;
        held = x.held;
        changes_are = x.changes_are;
      })

-- ---- the moments of a line

pub loses-is : (o : Option Want) (r : Option Refusal) (hs : List Hop) → ending_by o r ≡ Loses hs → r ≡ Some (Closes hs)
loses-is (Some own) r hs e = cc
loses-is None None hs e = cc
loses-is None (Some (Closes ring)) hs e = cc
loses-is None (Some (Wants own)) hs e = cc

pub lacks-is : (o : Option Want) (r : Option Refusal) (want : Want) → ending_by o r ≡ Lacks want → r ≡ Some (Wants want)
lacks-is (Some own) r want e = cc
lacks-is None None want e = cc
lacks-is None (Some (Closes ring)) want e = cc
lacks-is None (Some (Wants own)) want e = cc

-- what holds of a refused request of a session that may go, of the moment that tells its refusal
module _ (steps : List Step) (y : Refusal) (P : Scene → ℕ → Session → Rows' → List Task → List Change → Type 0)
    (holds : (w : World) (i : ℕ) (s u : Session) (ts : List Task) (changes : List Change) → Entering w i s ts
    → HasRefusal (scene_of w) i u w.rows ts changes y → P (scene_of w) i u w.rows ts changes) where
  abbrev Refuses : Going → Type 0
  Refuses g = refusal_by steps g.world g.cause ≡ Some y
      → (changes : List Change) × ((moment_of steps g).changes ≡ granted_by g.world g.cause ++ changes)
      × P (scene_by g.world g.cause) (session_by steps g.cause) (going_by steps g.world g.cause) g.world.rows (tasks_by steps g.world g.cause) changes

  moments-refuse : (w : World) (ks : List ℕ) → Sound w → ((k : ℕ) → (get_or steps k no_step).session < length w.sessions) → (g : Going)
      → Among g (line_goings steps w ks) → Refuses g
  moments-refuse = line-each steps Refuses
      (λ w k sound lt is e.
      let i = (get_or steps k no_step).session in
      let ss = (get_or steps k no_step).statements in
      let u = told_only (session_at w i) (Sent k) in (
        go_changes (scene_of w) i u w.rows (tasks_of (session_at w i).status ss),
        refl,
        holds w i (note (session_at w i) (Sent k)) u (tasks_of (session_at w i).status ss) (go_changes (scene_of w) i u w.rows (tasks_of (session_at w i).status ss))
            (entering w i (note (session_at w i) (Sent k)) (session_at w i).status ss (steady-of w sound) lt is refl refl)
            (go-refused (scene_of w) i u w.rows (tasks_of (session_at w i).status ss) y e),
      ))
      (λ w spot st h e.
      let i = spot.wait.session in
      let v = without w spot in
      let u = told_only (holding w spot) Resumed in
      let ts = (session_at w i).rest in (
        go_changes (scene_of v) i u w.rows ts,
        refl,
        holds v i (note (holding w spot) Resumed) u ts (go_changes (scene_of v) i u w.rows ts) (entering-granted w spot st h)
            (go-refused (scene_of v) i u w.rows ts y e),
      ))
      (λ w k sound lt is e. absurd (let x : None ≡ Some y = e in cc))

pub moments-lose : MomentsLose
moments-lose steps w ks sound fit g m hs e =
    moments-refuse steps (Closes hs) (λ e i u rows ts changes. IsLost e i u rows ts changes hs)
    (λ v i s u ts changes en. refused-lost v i s u ts changes en hs) w ks sound fit g m
    (loses-is (want_in (behind steps g) (session_by steps g.cause)) (refusal_by steps g.world g.cause) hs e)

pub moments-lack : MomentsLack
moments-lack steps w ks sound fit g m want e =
    moments-refuse steps (Wants want) (λ e i u rows ts changes. IsLacking e i u rows ts changes want)
    (λ v i s u ts changes en. refused-lacking v i s u ts changes en want) w ks sound fit g m
    (lacks-is (want_in (behind steps g) (session_by steps g.cause)) (refusal_by steps g.world g.cause) want e)
