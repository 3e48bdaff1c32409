-- Setups on a stage: the world after each of them, and the stage before the first.
use Rattle.std.specs.List.{All, list_any}
use Rattle.std.proofs.lemmas.List.Elements.{All-get_or, All-set, All-nil, All-cons}
use Rattle.std.proofs.lemmas.List.{length-map, length-replicate}
use Rattle.std.proofs.Common.{◌≡◌, refl, sym, ap, ◌∙◌, subst, ℕ, zero, suc, ◌<◌, Bool, true, false, List, [], ◌∷◌, length, drop, map, set, get_or, replicate, set-set}
use Rattle.std.proofs.Common.{Option, Some, None, is_some, arith, length-set, get_or-set_same, not, ◌||◌}
use Rattle.finite_maps.specs.Map.{empty, get-empty}
use Rattle.lock_modes.specs.Resource.{resource_order}
use Rattle.lock_modes.specs.declared.mode.Mode.{Mode}
use Rattle.lock_queues.specs.Locks.{waits_now, next_grant}
use Rattle.lock_queues.specs.LockTable.{Locks, holding_order, no_locks, slice}
use Rattle.row_tables.specs.Overlay.{Overlay}
use Rattle.row_tables.specs.Layers.{Layers, session_order, overlay_of, no_rows}
use Rattle.bound_statements.specs.declared.statement.Bound.{Bound}
use Rattle.machine_model.specs.declared.status.Status.TheVariants.{Outside}
use Rattle.session_steps.specs.State.{SessionState}
use Rattle.session_steps.specs.declared.point.Point.{Point}
use Rattle.session_steps.specs.declared.point.Rest.{Rest}
use Rattle.session_steps.specs.Stage.{Member}
use Rattle.session_steps.specs.Stage.{Staged}
use Rattle.machine_model.specs.Session.{Session, tasks_of}
use Rattle.session_steps.specs.State.{Own, no_own, session_of, sessions_from, world_of, SameOthers}
use Rattle.session_steps.specs.Going.{Standing, standing, tasks_from, IsToGo, StopsIn, WaitsIf, GoesUntil, paused}
use Rattle.machine_model.specs.World.{World, fresh, session_at, goes, look_of}
use Rattle.machine_model.specs.Start.{has_failed, is_failure, is_outside, after_setup, forgotten, IsAlone, Start, Started, SetupFailed, SessionSetupFailed}
use Rattle.machine_model.specs.Start.{SessionSetupWaits, main_setups, session_setups, started_then, start, IsIdle}
use Rattle.machine_model.specs.Sound.{Steady}
use Rattle.bound_specs.specs.Spec.{Step, Spec}
use Rattle.session_steps.specs.Stage.{no_member, rest_of, own_of, world_in, member_at, IsWithin, RestIsOf, IsStage, IsBlank, IsSilent, IsSettled}
use Rattle.session_steps.specs.SetUp.{IsSetUp, HasEnded, end_of}
use Rattle.session_steps.specs.SetUp.{IsReadyForMains, IsReadyForSessions}
use Rattle.session_steps.proofs.Steps.{tasks_from-start}
use Rattle.session_steps.proofs.States.{length-sessions_from, session_at-is, sessions-set, same-refl}
use Rattle.machine_model.proofs.Settles.{Entering, entering, goes-steady, touched-steady}
use Rattle.machine_model.proofs.Starts.{first_world, first-steady, get_or-replicate, alone-goes, alone-forgets, idle-goes}
use Rattle.session_steps.proofs.Stages.{get_or-owns, world-set, stage-gone}
use Rattle.session_steps.proofs.Worlds.{goes-is, to-go}
use Rattle.events.specs.declared.event.Event.{Event}
use Rattle.machine_model.specs.Outcome.{IsToldOf, TellsOwn}
use Rattle.session_steps.specs.declared.error.StartError.{StartError}
use Rattle.session_steps.specs.declared.error.StartError.TheVariants.{SetupFailed as SetupFailedAt, SessionSetupFailed as SessionSetupFailedAt}
use Rattle.session_steps.specs.declared.error.StartError.TheVariants.{SessionSetupWaits as SessionSetupWaitsAt, NoMemory}
use Rattle.session_steps.specs.Refused.{IsRefusedBy}

-- before the first step is sent no session has a rest
pub no-rest : (x : Staged) (c : ℕ) → IsStage [] x → c < length x.members → (member_at x c).rest ≡ None
no-rest x c stage lt = at (member_at x c).rest refl
  where
    at : (o : Option Rest) → (member_at x c).rest ≡ o → o ≡ None
    at None is = refl
    at (Some r) is = let below : r.step < 0 = All-get_or (RestIsOf 0) x.members c no_member lt stage.known r is in absurd (omega arith)

-- ---- a session goes with its setup

module _ (x : Staged) (i : ℕ) (block : List Bound) (stage : IsStage [] x) (lt : i < length x.members) where
  abbrev owns : List Own
  owns = map (own_of []) x.members

  abbrev m : Member
  m = member_at x i

  abbrev after : World
  after = after_setup (world_in [] x) i block

  many : length owns ≡ length x.members
  many = length-map x.members (own_of [])

  inside : i < length owns
  inside = subst (λ n. i < n) (sym many) lt

  within : IsWithin (length owns) x.store x.locks
  within = subst (λ n. IsWithin n x.store x.locks) (sym many) stage.within

  pub set-up-idle : waits_now x.locks.waits i ≡ false
  set-up-idle = sym (stage.resting i lt) ∙ ap is_some (no-rest x i stage lt)

  own-is : get_or owns i no_own ≡ (standing x.store x.locks m.state).own
  own-is = get_or-owns [] x.members i ∙ ap (λ o. record { status = m.state.status; rest = rest_of [] m.state.status o; transcript = m.state.transcript })
      (no-rest x i stage lt)

  at-is : session_at (world_in [] x) i ≡ session_of x.store x.locks i (standing x.store x.locks m.state).own
  at-is = session_at-is x.store x.locks owns i inside ∙ ap (session_of x.store x.locks i) own-is

  known : i < length (world_in [] x).sessions
  known = subst (λ n. i < n) (sym (length-sessions_from x.store x.locks 0 owns)) inside

  enters : Entering (world_in [] x) i (session_at (world_in [] x) i) (tasks_of (session_at (world_in [] x) i).status block)
  enters = entering (world_in [] x) i (session_at (world_in [] x) i) (session_at (world_in [] x) i).status block stage.steady known set-up-idle refl refl

  pub set-up-to-go : IsToGo i x.store x.locks m.state.status block 0 0
  set-up-to-go = to-go x.store x.locks owns i x.locks (standing x.store x.locks m.state).own block 0 0 within (same-refl i x.store x.locks) refl
      (subst (λ (s : Session). Entering (world_in [] x) i s (tasks_from s.status (drop 0 block) 0)) at-is
      (subst (Entering (world_in [] x) i (session_at (world_in [] x) i)) (sym (tasks_from-start (session_at (world_in [] x) i).status block)) enters))

  module _ (z : Standing) (stops : StopsIn i (standing x.store x.locks m.state) (tasks_from m.state.status (drop 0 block) 0) z) where
    goes-there : after ≡ world_of z.layers z.locks (set owns i z.own)
    goes-there =
        ap (λ (s : Session). goes (world_in [] x) i s (tasks_of s.status block)) at-is
        ∙ goes-is x.store x.locks owns i x.locks (standing x.store x.locks m.state).own (tasks_of m.state.status block) z within.below inside (same-refl i x.store x.locks)
        refl
        (subst (λ ts. StopsIn i (standing x.store x.locks m.state) ts z) (tasks_from-start m.state.status block) stops)

    set-inside : i < length (set owns i z.own)
    set-inside = subst (λ n. i < n) (sym (length-set owns i z.own)) inside

    session-is : session_at after i ≡ session_of z.layers z.locks i z.own
    session-is = ap (λ w. session_at w i) goes-there ∙ session_at-is z.layers z.locks (set owns i z.own) i set-inside
        ∙ ap (session_of z.layers z.locks i) (get_or-set_same owns i z.own no_own inside)

    pub failed-is : has_failed (session_at after i) ≡ list_any is_failure z.own.transcript
    failed-is = ap has_failed session-is

    pub outside-is : is_outside (session_at after i).status ≡ is_outside z.own.status
    outside-is = ap (λ (s : Session). is_outside s.status) session-is

    pub waits-is : waits_now after.waits i ≡ waits_now z.locks.waits i
    waits-is = ap (λ (w : World). waits_now w.waits i) goes-there

    abbrev quiet_own : Own
    quiet_own = record { status = z.own.status; rest = z.own.rest; transcript = [] }

    forgotten-there : forgotten after i ≡ world_of z.layers z.locks (set owns i quiet_own)
    forgotten-there =
        (λ k. record {
          rows = (goes-there k).rows;
          sessions = set (goes-there k).sessions i (record (session-is k) { transcript = [] });
          waits = (goes-there k).waits;
        })
        ∙ (λ k. record {
          rows = z.layers.committed;
          sessions =
              sym (sessions-set z.layers z.layers z.locks z.locks i quiet_own (set owns i z.own) (same-refl i z.layers z.locks)) k;
          waits = z.locks.waits;
        })
        ∙ ap (world_of z.layers z.locks) (set-set owns i z.own quiet_own)

    steady-there : Steady (forgotten after i)
    steady-there = touched-steady after i (record (session_at after i) { transcript = [] }) (record { overlay = refl; held = refl; rest = refl })
        (goes-steady (world_in [] x) i (session_at (world_in [] x) i) (tasks_of (session_at (world_in [] x) i).status block) enters)

    -- the stage with its part changed, and what it told forgotten
    module _ (y : Staged) (n : Member) (store : y.store ≡ z.layers) (locks : y.locks ≡ z.locks) (members : y.members
        ≡ set x.members i n) (own : own_of [] n ≡ quiet_own) (none : n.rest ≡ None) (waits : WaitsIf i x.locks z.locks false) where
      pub forgot : world_in [] y ≡ forgotten after i
      forgot = world-set [] y x.members i n members ∙ (λ k. world_of (store k) (locks k) (set owns i (own k))) ∙ sym forgotten-there

      pub set-up-stage : IsStage [] y
      set-up-stage = stage-gone [] i x y x.locks n lt stage (same-refl i x.store x.locks) (λ c ne. refl) members
          (subst (λ l. SameOthers i x.store l x.locks y.locks) (sym store) (subst (λ t. SameOthers i x.store z.layers x.locks t) (sym locks) stops.others))
          (subst (λ t. WaitsIf i x.locks t (is_some n.rest)) (sym locks) (subst (λ b. WaitsIf i x.locks z.locks b) (sym (ap is_some none)) waits))
          (λ r is. absurd (let no : None ≡ Some r = sym none ∙ is in cc))
          (subst Steady (sym forgot) steady-there)

-- ---- the stage before the first setup

map-blank : (n : ℕ) → map (own_of []) (replicate n no_member) ≡ replicate n no_own
map-blank zero = refl
map-blank (suc n) = ap (λ os. no_own ∷ os) (map-blank n)

slice-none : (i : ℕ) → slice i no_locks.held ≡ empty
slice-none i = Rattle.finite_maps.specs.Map.same_map _ _ (λ r. Rattle.lock_queues.proofs.Slices.get-slice i no_locks.held r
    ∙ get-empty holding_order Mode (i, r) ∙ sym (get-empty resource_order Mode r))

overlay-none : (i : ℕ) → overlay_of i no_rows ≡ empty
overlay-none i = ap (λ o. Rattle.std.specs.Option.unwrap_or o empty) (get-empty session_order Overlay i)

sessions-blank : (i n : ℕ) → sessions_from no_rows no_locks i (replicate n no_own) ≡ replicate n fresh
sessions-blank i zero = refl
sessions-blank i (suc n) = λ k. record {
  overlay = overlay-none i k;
  held = slice-none i k;
  status = Outside;
  rest = [];
  transcript = [];
} ∷ sessions-blank (suc i) n k

pub blank-world : (n : ℕ) (x : Staged) → IsBlank (suc n) x → world_in [] x ≡ first_world n
blank-world n x blank =
    (λ k. world_of (blank.store k) (blank.locks k) (map (own_of []) (blank.members k)))
    ∙ ap (world_of no_rows no_locks) (map-blank (suc n))
    ∙ (λ k. record { rows = empty; sessions = sessions-blank 0 (suc n) k; waits = [] })

blank-stage : (n : ℕ) (x : Staged) → IsBlank (suc n) x → IsStage [] x
blank-stage n x blank = record {
  within = record {
    overlays = λ c le. ap (overlay_of c) blank.store ∙ overlay-none c;
    below = record {
      holders = λ c r le. ap (λ t. Rattle.lock_queues.specs.LockTable.look_in t c r) blank.locks ∙ get-empty holding_order Mode (c, r);
      waiters = subst (λ t. Rattle.lock_queues.specs.Sound.EachWait (λ w. w.session < length x.members) t.waits) (sym blank.locks) tt;
    };
  };
  steady = subst Steady (sym (blank-world n x blank)) (first-steady n);
  resting = λ c lt. ap (λ (q : Member). is_some q.rest) (ap (λ ms. get_or ms c no_member) blank.members ∙ get_or-replicate (suc n) c no_member)
      ∙ sym (ap (λ t. waits_now t.waits c) blank.locks);
  known = subst (All (RestIsOf 0)) (sym blank.members) (each-blank (suc n));
}
  where
    each-blank : (k : ℕ) → All (RestIsOf 0) (replicate k no_member)
    each-blank zero = Rattle.std.proofs.lemmas.List.Elements.All-nil (RestIsOf 0)
    each-blank (suc k) = Rattle.std.proofs.lemmas.List.Elements.All-cons (RestIsOf 0) no_member (replicate k no_member) (λ r is. let no : None ≡ Some r = is
        in cc) (each-blank k)

get_or-replicate-any : (n c : ℕ) (d : Member) → c < length (replicate n no_member) → get_or (replicate n no_member) c d ≡ no_member
get_or-replicate-any zero c d lt = absurd (omega arith)
get_or-replicate-any (suc n) zero d lt = refl
get_or-replicate-any (suc n) (suc c) d lt = get_or-replicate-any n c d (omega arith)

pub ready-for-mains : (n : ℕ) (x : Staged) → IsBlank (suc n) x → IsReadyForMains n x
ready-for-mains n x blank = record {
  count = ap length blank.members ∙ length-replicate (suc n) no_member;
  stage = blank-stage n x blank;
  silent = subst (All IsSilent) (sym blank.members) (λ c d lt. ap (λ (m : Member). m.state.transcript) (get_or-replicate-any (suc n) c d lt));
  world = subst (IsAlone n (suc n)) (sym (blank-world n x blank))
      (record { steady = first-steady n; idle = refl; others = λ c ne. get_or-replicate (suc n) c fresh; count = length-replicate (suc n) fresh });
}

-- ---- the world of the first step

own-kept : (steps : List Step) (ms : List Member) → All (RestIsOf 0) ms → map (own_of steps) ms ≡ map (own_of []) ms
own-kept steps [] all = refl
own-kept steps (m ∷ ms) all = λ k. here k ∷ own-kept steps ms (λ j d lt. all (suc j) d (omega arith)) k
  where
    here : own_of steps m ≡ own_of [] m
    here = at m.rest refl
      where
        at : (o : Option Rest) → m.rest ≡ o → own_of steps m ≡ own_of [] m
        at None is = ap (λ o. record { status = m.state.status; rest = rest_of steps m.state.status o; transcript = m.state.transcript }) is
            ∙ sym (ap (λ o. record { status = m.state.status; rest = rest_of [] m.state.status o; transcript = m.state.transcript }) is)
        at (Some r) is = let below : r.step < 0 = all 0 m (omega arith) r is in absurd (omega arith)

-- whichever steps are to be sent
pub any-steps : (steps : List Step) (x : Staged) → IsStage [] x → world_in steps x ≡ world_in [] x
any-steps steps x stage = ap (world_of x.store x.locks) (own-kept steps x.members stage.known)

pub any-stage : (steps : List Step) (x : Staged) → IsStage [] x → IsStage steps x
any-stage steps x stage = record {
  within = stage.within;
  steady = subst Steady (sym (any-steps steps x stage)) stage.steady;
  resting = stage.resting;
  known = λ c d lt r is. let below : r.step < 0 = stage.known c d lt r is in absurd (omega arith);
}

-- ---- how a setup ends

module _ (x : Staged) (i : ℕ) (block : List Bound) (stage : IsStage [] x) (lt : i < length x.members) (l : Layers) (t : Locks) (s : SessionState)
    (y : Staged) (store : y.store ≡ l) (locks : y.locks ≡ t)
    (members : y.members ≡ set x.members i (record { state = record { status = s.status; transcript = [] }; rest = (member_at x i).rest })) where
  abbrev origin : Point
  origin = record { statement = 0; request = 0 }

  abbrev here : Standing
  here = standing x.store x.locks (member_at x i).state

  ended-whole : GoesUntil i here block origin l t s None → WaitsIf i x.locks t false → (failed outside : Bool) → list_any is_failure s.transcript ≡ failed
      → is_outside s.status ≡ outside → HasEnded (end_of failed false outside) i block x y
  ended-whole goes waits failed outside f o = at failed outside f o
    where
      set-up : list_any is_failure s.transcript ≡ false → IsSetUp i block x y
      set-up f =
          let n : Member = record { state = record { status = s.status; transcript = [] }; rest = (member_at x i).rest } in
          let none = no-rest x i stage lt in
          let own : own_of [] n ≡ record { status = s.status; rest = []; transcript = [] } =
          ap (λ r. record { status = s.status; rest = rest_of [] s.status r; transcript = [] }) none in
          record {
            whole = failed-is x i block stage lt (standing l t s) goes ∙ f;
            idle = waits-is x i block stage lt (standing l t s) goes ∙ waits.own;
            world = forgot x i block stage lt (standing l t s) goes y n store locks members own none waits;
            stage = set-up-stage x i block stage lt (standing l t s) goes y n store locks members own none waits;
            silent = λ all. subst (All IsSilent) (sym members) (All-set IsSilent x.members i n refl all);
            count = ap length members ∙ length-set x.members i n;
          }

      at : (failed outside : Bool) → list_any is_failure s.transcript ≡ failed → is_outside s.status ≡ outside
          → HasEnded (end_of failed false outside) i block x y
      at true outside f o = failed-is x i block stage lt (standing l t s) goes ∙ f
      at false true f o = (set-up f, outside-is x i block stage lt (standing l t s) goes ∙ o)
      at false false f o = (set-up f, outside-is x i block stage lt (standing l t s) goes ∙ o)

  ended-waiting : (p : Point) → GoesUntil i here block origin l t s (Some p) → WaitsIf i x.locks t true → (failed : Bool) → list_any is_failure s.transcript
      ≡ failed → HasEnded (end_of failed true (is_outside s.status)) i block x y
  ended-waiting p goes waits true f = failed-is x i block stage lt (paused l t s block p) goes ∙ f
  ended-waiting p goes waits false f = (
    failed-is x i block stage lt (paused l t s block p) goes ∙ f,
    waits-is x i block stage lt (paused l t s block p) goes
        ∙ waits.own,
  )

  pub ended : (stopped : Option Point) → GoesUntil i here block origin l t s stopped → WaitsIf i x.locks t (is_some stopped)
      → HasEnded (end_of (list_any is_failure s.transcript) (is_some stopped) (is_outside s.status)) i block x y
  ended None goes waits = ended-whole goes waits (list_any is_failure s.transcript) (is_outside s.status) refl refl
  ended (Some p) goes waits = ended-waiting p goes waits (list_any is_failure s.transcript) refl

-- ---- a main setup

module _ (control n : ℕ) (w : World) (block : List Bound) (blocks : List (List Bound)) where
  abbrev gone : World
  gone = after_setup w control block

  by : Bool → Start
  by b = elim b [ true ↦ SetupFailed n | false ↦ main_setups control (suc n) (forgotten gone control) blocks ]

  pub main-goes : has_failed (session_at gone control) ≡ false → is_outside (session_at gone control).status ≡ true → main_setups control n w (block ∷ blocks)
      ≡ main_setups control (suc n) (forgotten gone control) blocks
  unfolding by
  main-goes whole outside = λ k. by (whole k || not (outside k))

-- the control session never waits
pub main-idle : (control : ℕ) (x : Staged) (block : List Bound) → IsReadyForMains control x → waits_now (after_setup (world_in [] x) control block).waits control
    ≡ false
main-idle control x block ready =
    let gone = alone-goes control (suc control) (world_in [] x) block (omega arith) ready.world in
    ap (λ ws. waits_now ws control) gone.idle

pub main-ready : (control : ℕ) (x y : Staged) (block : List Bound) → IsReadyForMains control x → IsSetUp control block x y → IsReadyForMains control y
main-ready control x y block ready set-up =
    let gone = alone-goes control (suc control) (world_in [] x) block (omega arith) ready.world in
    record {
      count = set-up.count ∙ ready.count;
      stage = set-up.stage;
      silent = set-up.silent ready.silent;
      world = subst (IsAlone control (suc control)) (sym set-up.world) (alone-forgets control (suc control) (after_setup (world_in [] x) control block) gone);
    }

-- ---- the setup of a session

module _ (i : ℕ) (w : World) (block : List Bound) (blocks : List (List Bound)) where
  abbrev later : World
  later = after_setup w i block

  so : Bool → Bool → Start
  so a b = elim a [ true ↦ SessionSetupFailed i | false ↦ elim b [ true ↦ SessionSetupWaits i | false ↦ session_setups (suc i) (forgotten later i) blocks ] ]

  pub session-goes : has_failed (session_at later i) ≡ false → waits_now later.waits i ≡ false → session_setups i w (block ∷ blocks)
      ≡ session_setups (suc i) (forgotten later i) blocks
  unfolding so
  session-goes whole idle = λ k. so (whole k) (idle k)

  pub session-fails : has_failed (session_at later i) ≡ true → session_setups i w (block ∷ blocks) ≡ SessionSetupFailed i
  unfolding so
  session-fails failed = λ k. so (failed k) (waits_now later.waits i)

  pub session-waits : has_failed (session_at later i) ≡ false → waits_now later.waits i ≡ true → session_setups i w (block ∷ blocks) ≡ SessionSetupWaits i
  unfolding so
  session-waits whole waits = λ k. so (whole k) (waits k)

pub session-ready : (count i : ℕ) (x y : Staged) (block : List Bound) → i < count → IsReadyForSessions count x → IsSetUp i block x y → IsReadyForSessions count y
session-ready count i x y block lt ready set-up = record {
  each = set-up.count ∙ ready.each;
  stage = set-up.stage;
  silent = set-up.silent ready.silent;
  world = subst (IsIdle count) (sym set-up.world) (idle-goes count i (world_in [] x) block lt ready.world set-up.idle);
}

-- ---- the start of a spec

abbrev then_sessions : Spec → World → Start
then_sessions spec w = session_setups 0 w spec.session_setups

-- what the setups come to from a stage on which nothing is done is the start
pub start-from : (spec : Spec) (x : Staged) → IsBlank (suc spec.sessions) x → start spec
    ≡ started_then (main_setups spec.sessions 0 (world_in [] x) spec.setups) (then_sessions spec)
start-from spec x blank = ap (λ w. started_then (main_setups spec.sessions 0 w spec.setups) (then_sessions spec)) (sym (blank-world spec.sessions x blank))

-- main setups that are refused refuse the start
pub refused-mains : (spec : Spec) (x : Staged) (e : StartError) → IsBlank (suc spec.sessions) x
    → IsRefusedBy e (main_setups spec.sessions 0 (world_in [] x) spec.setups) → IsRefusedBy e (start spec)
refused-mains spec x (SetupFailedAt n) blank is = start-from spec x blank ∙ ap (λ s. started_then s (then_sessions spec)) is
refused-mains spec x (SessionSetupFailedAt i) blank is = start-from spec x blank ∙ ap (λ s. started_then s (then_sessions spec)) is
refused-mains spec x (SessionSetupWaitsAt i) blank is = start-from spec x blank ∙ ap (λ s. started_then s (then_sessions spec)) is
refused-mains spec x NoMemory blank is = tt

-- where they are done the session setups decide
pub start-sessions : (spec : Spec) (x y : Staged) → IsBlank (suc spec.sessions) x → main_setups spec.sessions 0 (world_in [] x) spec.setups
    ≡ Started (world_in [] y) → start spec ≡ session_setups 0 (world_in [] y) spec.session_setups
start-sessions spec x y blank is = start-from spec x blank ∙ ap (λ s. started_then s (then_sessions spec)) is

pub refused-sessions : (spec : Spec) (s : Start) (e : StartError) → start spec ≡ s → IsRefusedBy e s → IsRefusedBy e (start spec)
refused-sessions spec s e is refused = subst (IsRefusedBy e) (sym is) refused

-- of sessions that were told of nothing each is told of its own steps alone
own-silent : (steps : List Step) (x : Staged) → All IsSilent x.members → TellsOwn steps (world_in steps x)
own-silent steps x all i =
    subst (λ (es : List Event). All (IsToldOf steps i) es) (sym (silent x.members i 0 all)) (All-nil (IsToldOf steps i))
  where
    silent : (ms : List Member) (c k : ℕ) → All IsSilent ms → (get_or (sessions_from x.store x.locks k (map (own_of steps) ms)) c fresh).transcript ≡ []
    silent [] c k all = refl
    silent (m ∷ ms) zero k all = all 0 m (omega arith)
    silent (m ∷ ms) (suc c) k all = silent ms c (suc k) (λ d n lt. all (suc d) n (omega arith))

-- the stage of the first step
pub settled-first : (sessions : ℕ) (steps : List Step) (x : Staged) → IsReadyForSessions (suc sessions) x → IsSettled sessions steps x
settled-first sessions steps x ready =
    let here = any-steps steps x ready.stage in
    record {
      count = ready.each;
      stage = any-stage steps x ready.stage;
      unripe = ap (λ (w : World). next_grant (length w.sessions) (look_of w) w.waits) here
          ∙ ap (next_grant (length (world_in [] x).sessions) (look_of (world_in [] x))) ready.world.idle;
      own = own-silent steps x ready.silent;
    }
