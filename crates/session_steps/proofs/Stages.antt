-- A stage on which one session has gone: the world afterwards, and what holds of it.
use Rattle.std.specs.List.{All}
use Rattle.std.proofs.lemmas.List.Elements.{All-set}
use Rattle.std.proofs.lemmas.List.{length-map, map-set}
use Rattle.std.proofs.Common.{◌≡◌, ◌≢◌, refl, sym, ap, ◌∙◌, subst, ℕ, zero, suc, ◌<◌, true, false, ◌||◌, ◌==◌, List, [], ◌∷◌, ◌++◌, length, drop, map}
use Rattle.std.proofs.Common.{set, get_or, Option, Some, None, is_some, ⊎_elim, arith, length-set, set-set, get_or-set_other, get_or-set_same, eq-eqb}
use Rattle.lock_queues.specs.declared.wait.Wait.{Wait}
use Rattle.lock_queues.specs.Locks.{Spot, waits_now}
use Rattle.lock_queues.specs.LockTable.{Locks, grant}
use Rattle.lock_queues.specs.Rules.{IsNext, NothingRipe}
use Rattle.lock_queues.specs.Sound.{EachWait}
use Rattle.lock_queues.proofs.Bounded.{tests-decide}
use Rattle.events.specs.declared.event.Event.{Event}
use Rattle.events.specs.declared.event.Event.TheVariants.{Sent, Resumed, NotSent}
use Rattle.bound_specs.specs.Spec.{Step, no_step}
use Rattle.session_steps.specs.declared.point.Rest.{Rest}
use Rattle.session_steps.specs.Stage.{Member}
use Rattle.session_steps.specs.Stage.{Staged}
use Rattle.machine_model.specs.Session.{Task, Session, note, tasks_of}
use Rattle.session_steps.specs.State.{Own, no_own, session_of, world_of, SameOthers}
use Rattle.session_steps.specs.Going.{standing, tasks_from, IsToGo, StopsIn, WaitsIf}
use Rattle.machine_model.specs.World.{World, look_of, session_at, goes, granted, settle, left_to_do, noted, send}
use Rattle.machine_model.specs.Sound.{Steady, Ready}
use Rattle.session_steps.specs.Stage.{no_member, statements_of, rest_of, own_of, world_in, member_at, part_of, IsWithin, RestIsOf, IsStage, note_member}
use Rattle.session_steps.specs.Stage.{HasTold, HasGone, HasStarted, HasResumed}
use Rattle.machine_model.proofs.Basics.{cases-eq}
use Rattle.session_steps.proofs.Steps.{tasks_from-start}
use Rattle.session_steps.proofs.States.{length-sessions_from, session_at-is, next-is, same-refl, same-trans, same-taken}
use Rattle.machine_model.proofs.Settles.{Grant, next-grant, goes-steady, granted-steady, granted-left}
use Rattle.lock_queues.proofs.WaitLists.{wait-right, wait-map}
use Rattle.machine_model.proofs.SettleSteps.{next_in, settle-grant}
use Rattle.session_steps.proofs.Worlds.{within-still, goes-is, granted-is, resumed_own, own_told, granted-to-go, not-sent, sent-enters, sent-to-go}
use Rattle.session_steps.proofs.Waiting.{apart}

-- ---- the sessions of a stage

pub get_or-owns : (steps : List Step) (ms : List Member) (i : ℕ) → get_or (map (own_of steps) ms) i no_own ≡ own_of steps (get_or ms i no_member)
get_or-owns steps [] i = refl
get_or-owns steps (m ∷ ms) zero = refl
get_or-owns steps (m ∷ ms) (suc i) = get_or-owns steps ms i

-- at a place of the list the default does not matter
pub get_or-any : {A : Type 0} (xs : List A) (i : ℕ) (d e : A) → i < length xs → get_or xs i d ≡ get_or xs i e
get_or-any [] i d e lt = absurd (omega arith)
get_or-any (x ∷ xs) zero d e lt = refl
get_or-any (x ∷ xs) (suc i) d e lt = get_or-any xs i d e (omega arith)

-- the world where one session is changed
pub world-set : (steps : List Step) (y : Staged) (ms : List Member) (i : ℕ) (m : Member) → y.members ≡ set ms i m → world_in steps y
    ≡ world_of y.store y.locks (set (map (own_of steps) ms) i (own_of steps m))
world-set steps y ms i m is = ap (λ xs. world_of y.store y.locks (map (own_of steps) xs)) is ∙ ap (world_of y.store y.locks) (map-set (own_of steps) ms i m)

-- ---- what holds of the stage where one session has gone

module _ (steps : List Step) (i : ℕ) (x y : Staged) (t : Locks) (m : Member) (lt : i < length x.members) (stage : IsStage steps x)
    (before : SameOthers i x.store x.store x.locks t) (waits : (c : ℕ) → c ≢ i → waits_now t.waits c ≡ waits_now x.locks.waits c)
    (members : y.members ≡ set x.members i m) (after : SameOthers i x.store y.store t y.locks) (now : WaitsIf i t y.locks (is_some m.rest))
    (rest : RestIsOf (length steps) m) (steady : Steady (world_in steps y)) where
  abbrev n : ℕ
  n = length x.members

  count : length y.members ≡ n
  count = ap length members ∙ length-set x.members i m

  sessions : length (world_in steps y).sessions ≡ n
  sessions = length-sessions_from y.store y.locks 0 (map (own_of steps) y.members) ∙ length-map y.members (own_of steps) ∙ count

  known : EachWait (λ w. w.session < n) y.locks.waits
  known = wait-map (Ready (world_in steps y)) (λ w. w.session < n) (λ v r. subst (λ k. v.session < k) sessions r.known) y.locks.waits steady.ready

  member : (c : ℕ) → member_at y c ≡ get_or (set x.members i m) c no_member
  member c = ap (λ ms. get_or ms c no_member) members

  resting : (c : ℕ) → c < n → is_some (member_at y c).rest ≡ waits_now y.locks.waits c
  resting c lt' = ⊎_elim
      (λ e. subst (λ d. is_some (member_at y d).rest ≡ waits_now y.locks.waits d) (sym e)
      (ap (λ (q : Member). is_some q.rest) (member i ∙ get_or-set_same x.members i m no_member lt) ∙ sym now.own))
      (λ ne. ap (λ (q : Member). is_some q.rest) (member c ∙ get_or-set_other x.members i c m no_member ne) ∙ stage.resting c lt' ∙ sym (waits c ne)
      ∙ sym (now.others c ne))
      (cases-eq c i)

  pub stage-gone : IsStage steps y
  stage-gone = record {
    within = subst (λ k. IsWithin k y.store y.locks) (sym count)
        (within-still n i x.store y.store x.locks y.locks lt (same-trans i x.store x.store y.store x.locks t y.locks before after) known stage.within);
    steady = steady;
    resting = λ c lt'. resting c (subst (λ k. c < k) count lt');
    known = subst (All (RestIsOf (length steps))) (sym members) (All-set (RestIsOf (length steps)) x.members i m rest stage.known);
  }

-- ---- a session that is told and goes

-- from the stage before it was told
pub record Gone (steps : List Step) (i : ℕ) (ts : List Task) (x : Staged) (t : Locks) (e : Event) (y : Staged) : Type 0 where
  pub members : y.members ≡ set x.members i (member_at y i)
  pub stops : StopsIn i (standing x.store t (note_member (member_at x i) e).state) ts (part_of steps y i)
  pub waits : WaitsIf i t y.locks (is_some (member_at y i).rest)
  pub known : RestIsOf (length steps) (member_at y i)

pub gone-told : (steps : List Step) (i : ℕ) (ts : List Task) (x told y : Staged) (t : Locks) (e : Event) → i < length x.members → told.store ≡ x.store
    → told.locks ≡ t → told.members ≡ set x.members i (note_member (member_at x i) e)
    → HasGone steps i ts told y → Gone steps i ts x t e y
gone-told steps i ts x told y t e lt store locks members gone =
    let there : member_at told i ≡ note_member (member_at x i) e = ap (λ ms. get_or ms i no_member) members
    ∙ get_or-set_same x.members i (note_member (member_at x i) e) no_member lt in
    record {
      members = gone.members ∙ ap (λ ms. set ms i (member_at y i)) members ∙ set-set x.members i (note_member (member_at x i) e) (member_at y i);
      stops = subst (λ z. StopsIn i z ts (part_of steps y i)) (λ k. standing (store k) (locks k) (there k).state) gone.stops;
      waits = subst (λ u. WaitsIf i u y.locks (is_some (member_at y i).rest)) locks gone.waits;
      known = gone.known;
    }

-- it stands with its block as before
pub told-status : (i : ℕ) (x told : Staged) (e : Event) → i < length x.members → told.members ≡ set x.members i (note_member (member_at x i) e)
    → (member_at told i).state.status ≡ (member_at x i).state.status
told-status i x told e lt members = ap (λ ms. (get_or ms i no_member).state.status) members
    ∙ ap (λ (m : Member). m.state.status) (get_or-set_same x.members i (note_member (member_at x i) e) no_member lt)

-- ---- a wait is granted

waits-there : (us : List Wait) (v : Wait) (vs : List Wait) → waits_now (us ++ v ∷ vs) v.session ≡ true
waits-there [] v vs = Rattle.machine_model.proofs.Basics.or_true_left (v.session == v.session) (waits_now vs v.session) (eq-eqb v.session v.session refl)
waits-there (u ∷ us) v vs = Rattle.machine_model.proofs.Basics.or_true_right (u.session == v.session) (waits_now (us ++ v ∷ vs) v.session) (waits-there us v vs)

-- who else waits does not hang on this wait
waits-without : (us : List Wait) (v : Wait) (vs : List Wait) (c : ℕ) → c ≢ v.session → waits_now (us ++ vs) c ≡ waits_now (us ++ v ∷ vs) c
waits-without [] v vs c ne = sym (ap (λ b. b || waits_now vs c) (apart v.session c ne))
waits-without (u ∷ us) v vs c ne = ap (λ b. (u.session == c) || b) (waits-without us v vs c ne)

module _ (steps : List Step) (x : Staged) (s : Spot) (stage : IsStage steps x) (next : IsNext x.locks s) where
  abbrev i : ℕ
  i = s.wait.session

  abbrev owns : List Own
  owns = map (own_of steps) x.members

  long : length owns ≡ length x.members
  long = length-map x.members (own_of steps)

  waiters : EachWait (λ w. w.session < length x.members) (s.before ++ s.wait ∷ s.after)
  waiters = subst (EachWait (λ w. w.session < length x.members)) (sym next.there) stage.within.below.waiters

  pub session-known : i < length x.members
  session-known = (wait-right (λ w. w.session < length x.members) s.before (s.wait ∷ s.after) waiters).0

  inside : i < length owns
  inside = subst (λ k. i < k) (sym long) session-known

  within : IsWithin (length owns) x.store x.locks
  within = subst (λ k. IsWithin k x.store x.locks) (sym long) stage.within

  -- it has a rest
  pub rests : is_some (member_at x i).rest ≡ true
  rests = stage.resting i session-known ∙ ap (λ ws. waits_now ws i) (sym next.there) ∙ waits-there s.before s.wait s.after

  rest-is : (r : Rest) → (member_at x i).rest ≡ Some r → (get_or owns i no_own).rest
      ≡ tasks_from (member_at x i).state.status (drop r.point.statement (statements_of steps r.step)) r.point.request
  rest-is r is = ap (λ (o : Own). o.rest) (get_or-owns steps x.members i) ∙ ap (rest_of steps (member_at x i).state.status) is

  status-is : (get_or owns i no_own).status ≡ (member_at x i).state.status
  status-is = ap (λ (o : Own). o.status) (get_or-owns steps x.members i)

  -- it is to go on with it
  pub resumed-to-go : (r : Rest) → (member_at x i).rest ≡ Some r
      → IsToGo i x.store (grant x.locks s) (member_at x i).state.status (statements_of steps r.step) r.point.statement r.point.request
  resumed-to-go r is =
      let sts = statements_of steps r.step in
      subst (λ b. IsToGo i x.store (grant x.locks s) b sts r.point.statement r.point.request) status-is
      (granted-to-go x.store x.locks owns s sts r.point.statement r.point.request within stage.steady next inside
      (rest-is r is ∙ ap (λ b. tasks_from b (drop r.point.statement sts) r.point.request) (sym status-is)))

  next-now : next_in (world_in steps x) ≡ Some s
  next-now = next-is x.store x.locks owns within.below ∙ (tests-decide (length owns) x.locks within.below).next s next

  module _ (r : Rest) (is : (member_at x i).rest ≡ Some r) (y : Staged)
      (gone : Gone steps i (tasks_from (member_at x i).state.status (drop r.point.statement (statements_of steps r.step)) r.point.request) x (grant x.locks s) Resumed y) where
    stops : StopsIn i (record { layers = x.store; locks = grant x.locks s; own = resumed_own (get_or owns i no_own) }) (get_or owns i no_own).rest
        (part_of steps y i)
    stops = subst (λ ts. StopsIn i (record { layers = x.store; locks = grant x.locks s; own = resumed_own (get_or owns i no_own) }) ts (part_of steps y i))
        (sym (rest-is r is))
        (subst (λ o. StopsIn i (record { layers = x.store; locks = grant x.locks s; own = resumed_own o })
        (tasks_from (member_at x i).state.status (drop r.point.statement (statements_of steps r.step)) r.point.request) (part_of steps y i))
        (sym (get_or-owns steps x.members i))
        gone.stops)

    left-out : (us : List Wait) (v : Wait) (vs : List Wait) → EachWait (λ w. w.session < length owns) (us ++ v ∷ vs)
        → EachWait (λ w. w.session < length owns) (us ++ vs)
    left-out [] v vs p = p.1
    left-out (u ∷ us) v vs p = (p.0, left-out us v vs p.1)

    granted-now : granted (world_in steps x) s ≡ world_in steps y
    granted-now =
        granted-is x.store x.locks owns s (part_of steps y i) within.below inside
        (left-out s.before s.wait s.after (subst (EachWait (λ w. w.session < length owns)) (sym next.there) within.below.waiters)) stops
        ∙ sym (world-set steps y x.members i (member_at y i) gone.members)

    grants : (u : Spot) → IsNext x.locks u → world_in steps y ≡ granted (world_in steps x) u
    grants u its =
        let there : next_in (world_in steps x) ≡ Some u = next-is x.store x.locks owns within.below ∙ (tests-decide (length owns) x.locks within.below).next u its in
        let same : s ≡ u = (let e : Some s ≡ Some u = sym next-now ∙ there in cc) in
        subst (λ v. world_in steps y ≡ granted (world_in steps x) v) same (sym granted-now)

    its-grant : Grant (length (world_in steps x).sessions) (look_of (world_in steps x)) (world_in steps x).waits s
    its-grant = next-grant (length (world_in steps x).sessions) (look_of (world_in steps x)) (world_in steps x).waits s next-now

    same-grant : SameOthers i x.store x.store x.locks (grant x.locks s)
    same-grant =
        let taken = same-taken x.store (record { held = x.locks.held; waits = s.before ++ s.after }) i s.wait.resource s.wait.mode in
        record { overlays = taken.overlays; held = taken.held }

    pub has-resumed : HasResumed steps x y
    has-resumed = record {
      grants = grants;
      settles = settle-grant (world_in steps x) s stage.steady next-now ∙ ap settle granted-now;
      less = subst (λ w. left_to_do w < left_to_do (world_in steps x)) granted-now (granted-left (world_in steps x) s stage.steady its-grant);
      stage = stage-gone steps i x y (grant x.locks s) (member_at y i) session-known stage same-grant
          (λ c ne. waits-without s.before s.wait s.after c ne ∙ ap (λ ws. waits_now ws c) next.there) gone.members gone.stops.others gone.waits gone.known
          (subst Steady granted-now (granted-steady (world_in steps x) s stage.steady its-grant));
      count = ap length gone.members ∙ length-set x.members i (member_at y i);
    }

-- the next grant is that of the world
pub next-in-world : (steps : List Step) (x : Staged) (s : Spot) → IsStage steps x → IsNext x.locks s → next_in (world_in steps x) ≡ Some s
next-in-world steps x s stage next = next-now steps x s stage next

pub none-in-world : (steps : List Step) (x : Staged) → IsStage steps x → NothingRipe x.locks → next_in (world_in steps x) ≡ None
none-in-world steps x stage never =
    let owns : List Own = map (own_of steps) x.members in
    let within : IsWithin (length owns) x.store x.locks = subst (λ k. IsWithin k x.store x.locks) (sym (length-map x.members (own_of steps))) stage.within
    in
    next-is x.store x.locks owns within.below ∙ (tests-decide (length owns) x.locks within.below).none never

-- ---- a step is sent

pub none-rests : (o : Option Rest) → is_some o ≡ false → o ≡ None
none-rests None is = refl
none-rests (Some r) is = cc

module _ (steps : List Step) (x : Staged) (k i : ℕ) (stage : IsStage steps x) (is : i ≡ (get_or steps k no_step).session) (lt : i < length x.members) where
  abbrev own_list : List Own
  own_list = map (own_of steps) x.members

  sender-is : (P : ℕ → Type 0) → P i → P (get_or steps k no_step).session
  sender-is P p = subst P is p

  many : length own_list ≡ length x.members
  many = length-map x.members (own_of steps)

  in-owns : (get_or steps k no_step).session < length own_list
  in-owns = sender-is (λ c. c < length own_list) (subst (λ n. i < n) (sym many) lt)

  in-within : IsWithin (length own_list) x.store x.locks
  in-within = subst (λ n. IsWithin n x.store x.locks) (sym many) stage.within

  -- a session that waits is not sent it
  pub not-sent-now : (y : Staged) → HasTold i (NotSent k) x y → waits_now x.locks.waits i ≡ true → world_in steps y ≡ send steps (world_in steps x) k
  not-sent-now y told waits =
      let m = note_member (member_at x i) (NotSent k) in
      world-set steps y x.members i m told.members
      ∙ (λ j. world_of (told.store j) (told.locks j) (set own_list i (own_told (sym (get_or-owns steps x.members i) j) (NotSent k))))
      ∙ ap (λ c. world_of x.store x.locks (set own_list c (own_told (get_or own_list c no_own) (NotSent k)))) is
      ∙ sym (not-sent steps x.store x.locks own_list k in-owns (sender-is (λ c. waits_now x.locks.waits c ≡ true) waits))

  pub not-sent-stage : (y : Staged) → HasTold i (NotSent k) x y → Steady (world_in steps y) → IsStage steps y
  not-sent-stage y told steady =
      let m = note_member (member_at x i) (NotSent k) in
      stage-gone steps i x y x.locks m lt stage (same-refl i x.store x.locks) (λ c ne. refl) told.members
      (subst (λ l. SameOthers i x.store l x.locks y.locks) (sym told.store)
      (subst (λ t. SameOthers i x.store x.store x.locks t) (sym told.locks) (same-refl i x.store x.locks)))
      (subst (λ t. WaitsIf i x.locks t (is_some m.rest)) (sym told.locks) (record { own = sym (stage.resting i lt); others = λ c ne. refl }))
      (λ r e. Rattle.std.proofs.lemmas.List.Elements.All-get_or (RestIsOf (length steps)) x.members i no_member lt stage.known r e) steady

  module _ (idle : waits_now x.locks.waits i ≡ false) where
    at-rest : (member_at x i).rest ≡ None
    at-rest = none-rests (member_at x i).rest (stage.resting i lt ∙ idle)

    sender-idle : waits_now x.locks.waits (get_or steps k no_step).session ≡ false
    sender-idle = sender-is (λ c. waits_now x.locks.waits c ≡ false) idle

    pub sent-to-go-now : IsToGo i x.store x.locks (member_at x i).state.status (statements_of steps k) 0 0
    sent-to-go-now = subst (λ (o : Own). IsToGo i x.store x.locks o.status (statements_of steps k) 0 0) (get_or-owns steps x.members i)
        (subst (λ c. IsToGo c x.store x.locks (get_or own_list c no_own).status (statements_of steps k) 0 0) (sym is)
        (sent-to-go steps x.store x.locks own_list k in-within stage.steady in-owns sender-idle))

    module _ (y : Staged) (gone : Gone steps i (tasks_from (member_at x i).state.status (drop 0 (statements_of steps k)) 0) x x.locks (Sent k) y) where
      own-is : own_told (get_or own_list i no_own) (Sent k) ≡ record {
        status = (member_at x i).state.status;
        rest = [];
        transcript = (note_member (member_at x i) (Sent k)).state.transcript;
      }
      own-is = ap (λ o. own_told o (Sent k)) (get_or-owns steps x.members i)
          ∙ ap (λ o. record {
            status = (member_at x i).state.status;
            rest = rest_of steps (member_at x i).state.status o;
            transcript = (note_member (member_at x i) (Sent k)).state.transcript;
          }) at-rest

      stops-here : StopsIn i (record { layers = x.store; locks = x.locks; own = own_told (get_or own_list i no_own) (Sent k) })
          (tasks_of (get_or own_list i no_own).status (statements_of steps k)) (part_of steps y i)
      stops-here = subst (λ (o : Own). StopsIn i (record { layers = x.store; locks = x.locks; own = o }) (tasks_of o.status (statements_of steps k))
          (part_of steps y i))
          (sym own-is)
          (subst (λ ts. StopsIn i (standing x.store x.locks (note_member (member_at x i) (Sent k)).state) ts (part_of steps y i))
          (tasks_from-start (member_at x i).state.status (statements_of steps k)) gone.stops)

      sender-stops : StopsIn (get_or steps k no_step).session (record {
        layers = x.store;
        locks = x.locks;
        own = own_told (get_or own_list (get_or steps k no_step).session no_own) (Sent k);
      }) (tasks_of (get_or own_list (get_or steps k no_step).session no_own).status (statements_of steps k)) (part_of steps y i)
      sender-stops = subst (λ c. StopsIn c (record { layers = x.store; locks = x.locks; own = own_told (get_or own_list c no_own) (Sent k) })
          (tasks_of (get_or own_list c no_own).status (statements_of steps k)) (part_of steps y i)) is stops-here

      there : world_of y.store y.locks (set own_list (get_or steps k no_step).session (own_of steps (member_at y i))) ≡ world_in steps y
      there = ap (λ c. world_of y.store y.locks (set own_list c (own_of steps (member_at y i)))) (sym is)
          ∙ sym (world-set steps y x.members i (member_at y i) gone.members)

      gone-there : goes (world_in steps x) (get_or steps k no_step).session
          (session_of x.store x.locks (get_or steps k no_step).session (own_told (get_or own_list (get_or steps k no_step).session no_own) (Sent k)))
          (tasks_of (get_or own_list (get_or steps k no_step).session no_own).status (statements_of steps k)) ≡ world_in steps y
      gone-there =
          let c = (get_or steps k no_step).session in
          goes-is x.store x.locks own_list c x.locks (own_told (get_or own_list c no_own) (Sent k))
          (tasks_of (get_or own_list c no_own).status (statements_of steps k)) (part_of steps y i)
          in-within.below in-owns (same-refl c x.store x.locks) refl sender-stops ∙ there

      sent-stage : IsStage steps y
      sent-stage =
          let c = (get_or steps k no_step).session in
          stage-gone steps i x y x.locks (member_at y i) lt stage (same-refl i x.store x.locks) (λ d ne. refl) gone.members gone.stops.others gone.waits
          gone.known
          (subst Steady gone-there (goes-steady (world_in steps x) c (session_of x.store x.locks c (own_told (get_or own_list c no_own) (Sent k)))
          (tasks_of (get_or own_list c no_own).status (statements_of steps k)) (sent-enters steps x.store x.locks own_list k stage.steady in-owns sender-idle)))

      pub has-started : HasStarted steps k x y
      has-started =
          let c = (get_or steps k no_step).session in
          record {
            world = sym gone-there
                ∙ ap (λ (s : Session). goes (world_in steps x) c (note s (Sent k)) (tasks_of s.status (statements_of steps k)))
                (sym (session_at-is x.store x.locks own_list c in-owns));
            stage = sent-stage;
            count = ap length gone.members ∙ length-set x.members i (member_at y i);
          }

-- a step that is sent to a session that does not wait: the world settles from there
pub sent-settles : (steps : List Step) (w : World) (k : ℕ) → waits_now w.waits (get_or steps k no_step).session ≡ false
    → send steps w k
    ≡ settle (goes w (get_or steps k no_step).session (note (session_at w (get_or steps k no_step).session) (Sent k)) (tasks_of (session_at w (get_or steps k no_step).session).status (statements_of steps k)))
sent-settles steps w k idle = ap (λ b. let v : World =
    elim b [
      | true ↦ noted w (get_or steps k no_step).session (NotSent k)
      | false ↦ settle
          (goes w (get_or steps k no_step).session (note (session_at w (get_or steps k no_step).session) (Sent k)) (tasks_of (session_at w (get_or steps k no_step).session).status (statements_of steps k)))
    ] in v) idle
