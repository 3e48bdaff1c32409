-- What is told of a stage's session that went is the moment of the world.
use Rattle.std.proofs.Math.Seq.{drop-append_seam}
use Rattle.std.proofs.lemmas.List.{length-map}
use Rattle.std.proofs.Common.{◌≡◌, refl, sym, ap, ◌∙◌, subst, ℕ, zero, suc, ◌<◌, ◌≤◌, ◌==◌, true, false, cond, List, [], ◌∷◌, ◌++◌, drop, length, map, get_or}
use Rattle.std.proofs.Common.{Option, Some, None, arith, eq-eqb, get_or-set_same}
use Rattle.finite_maps.specs.Map.{get, entries}
use Rattle.lock_queues.specs.Laws.{IsBelow}
use Rattle.lock_queues.specs.Locks.{Spot, waits_now, wanted}
use Rattle.lock_queues.specs.LockTable.{Locks, look_in, grant, slice}
use Rattle.lock_queues.specs.Reasons.{Want, want_of}
use Rattle.lock_queues.specs.Rules.{IsNext, wait_of}
use Rattle.lock_queues.specs.Sound.{Distinct, EachWait}
use Rattle.lock_queues.specs.declared.wait.Wait.{Wait}
use Rattle.lock_queues.specs.Locks.{wanted_by}
use Rattle.lock_queues.proofs.Keeping.{found-is}
use Rattle.lock_queues.proofs.Slices.{get-slice}
use Rattle.events.specs.declared.event.Event.{Event}
use Rattle.events.specs.declared.event.Event.TheVariants.{Sent, Resumed, NotSent}
use Rattle.bound_specs.specs.Spec.{Step, no_step}
use Rattle.machine_model.specs.Session.{Session, note, tasks_of}
use Rattle.machine_model.specs.Go.{taking}
use Rattle.machine_model.specs.World.{World, session_at, look_of, scene_of, goes, granted, settle, left_to_do, noted, send}
use Rattle.machine_model.specs.Sound.{Steady}
use Rattle.machine_model.proofs.Settles.{Grant, next-grant, none-left, granted-steady, granted-left}
use Rattle.machine_model.proofs.SettleSteps.{next_in}
use Rattle.line_moments.specs.Moments.{Cause, Sends, GoesOn, Skips, behind_by, settle_goings, moments, moment_of, want_in, edges_in, still_below}
use Rattle.line_moments.specs.Moments.{changed_edges, ending_by, session_by, manner_by, step_by, events_by, changes_by, refusal_by, told_only, holding, without}
use Rattle.line_moments.specs.Moments.{go_changes, go_refusal, last_sent}
use Rattle.line_moments.specs.Reads.{open_reads}
use Rattle.line_moments.specs.Stale.{stale_of, stale_in, stale_below}
use Rattle.row_tables.specs.Overlay.{lay}
use Rattle.line_moments.specs.Left.{begun, standings, standing_by}
use Rattle.line_moments.specs.declared.moment.Change.TheVariants.{Had}
use Rattle.line_moments.specs.declared.moment.Manner.TheVariants.{IsSent, IsNotSent}
use Rattle.line_moments.specs.declared.moment.Moment.{Moment}
use Rattle.line_moments.proofs.Telling.{goes-grows, granted-grows}
use Rattle.session_machine.specs.declared.trace.Trace.{Trace}
use Rattle.session_steps.specs.State.{Own, session_of}
use Rattle.session_steps.specs.Going.{session_in, tasks_from}
use Rattle.session_machine.specs.Tracing.{IsSceneOf}
use Rattle.session_steps.specs.Stage.{Member, Staged, no_member, statements_of, rest_of, own_of, world_in, member_at, IsStage, note_member, HasTold, HasStarted}
use Rattle.session_machine.specs.Telling.{edges_told, still_told, stale_since, stale_told, told_since, moment_told, no_trace, had_of, IsTold, sent_standing, resumed_standing, IsResumedSo}
use Rattle.session_machine.specs.Telling.{moment_in, settling}
use Rattle.session_machine.specs.Showing.{begun_in, standings_in}
use Rattle.session_steps.proofs.Stages.{get_or-owns, none-rests, session-known}
use Rattle.session_steps.proofs.Standing.{look-now, length-world}
use Rattle.session_steps.proofs.States.{session_at-is, session-taken, same-taken, same-refl}
use Rattle.session_steps.proofs.Steps.{tasks_from-start}
use Rattle.session_steps.proofs.Worlds.{scene-is}

-- ---- what the world tells of waits

module _ (steps : List Step) (n : ℕ) where
  pub want-in : (s : Staged) → IsStage steps s → length s.members ≡ n → (c : ℕ)
      → want_in (world_in steps s) c ≡ want_of n (look_in s.locks) s.locks.waits c
  want-in s stage many c = λ k. want_of ((length-world steps s ∙ many) k) (look-now steps s stage k) s.locks.waits c

  edges-in : (s : Staged) → IsStage steps s → length s.members ≡ n → (c : ℕ) → edges_in (world_in steps s) c ≡ edges_told n s.locks c
  edges-in s stage many c = ap (λ (o : Option Want). let es : List Rattle.lock_queues.specs.declared.reason.Edge.Edge =
      elim o [ None ↦ [] | Some want ↦ want.edges ] in es) (want-in s stage many c)

  still-in : (x y : Staged) → IsStage steps x → IsStage steps y → length x.members ≡ n → length y.members ≡ n → (i m : ℕ)
      → still_below m i (world_in steps x) (world_in steps y) ≡ still_told m n i x.locks y.locks
  still-in x y sx sy cx cy i zero = refl
  still-in x y sx sy cx cy i (suc m) = λ k. still-in x y sx sy cx cy i m k
      ++ cond (m == i) [] (changed_edges m (edges-in x sx cx m k) (edges-in y sy cy m k))

  pub at-session : (s : Staged) (i : ℕ) → i < length s.members
      → session_at (world_in steps s) i ≡ session_of s.store s.locks i (own_of steps (member_at s i))
  at-session s i lt =
      session_at-is s.store s.locks (map (own_of steps) s.members) i (subst (λ k. i < k) (sym (length-map s.members (own_of steps))) lt)
      ∙ ap (session_of s.store s.locks i) (get_or-owns steps s.members i)

  -- who is on the stage sees what it sees in the world
  stale-here : (x y : Staged) → length x.members ≡ n → length y.members ≡ n → (c : ℕ) → c < n
      → stale_in steps c (world_in steps x) (world_in steps y) ≡ stale_since steps c x y
  stale-here x y cx cy c lt = λ k.
      let there = at-session x c (subst (λ m. c < m) (sym cx) lt) in
      let then = at-session y c (subst (λ m. c < m) (sym cy) lt) in
      stale_of steps c (lay (there k).overlay x.store.committed) (lay (then k).overlay y.store.committed) (open_reads (there k).status (there k).transcript)

  stale-told : (x y : Staged) → length x.members ≡ n → length y.members ≡ n → (i m : ℕ) → m ≤ n
      → stale_below steps m i (world_in steps x) (world_in steps y) ≡ stale_told steps m i x y
  stale-told x y cx cy i zero le = refl
  stale-told x y cx cy i (suc m) le = λ k. stale-told x y cx cy i m (omega arith) k ++ cond (m == i) [] (stale-here x y cx cy m (omega arith) k)

  -- what is told is the moment, by its parts
  moment-is : (x y : Staged) → IsStage steps x → IsStage steps y → length x.members ≡ n → length y.members ≡ n → (cause : Cause) (i : ℕ)
      (step : Option ℕ) (trace : Trace) → i < n
      → world_in steps y ≡ behind_by steps (world_in steps x) cause → i ≡ session_by steps cause → step ≡ step_by (world_in steps x) cause
      → told_since i x y ≡ events_by steps (world_in steps x) cause → trace.changes ≡ changes_by steps (world_in steps x) cause
      → trace.refusal ≡ refusal_by steps (world_in steps x) cause
      → moment_told steps n x y i (manner_by cause) step trace ≡ moment_in steps x cause
  moment-is x y sx sy cx cy cause i step trace lt world is which events changes refused =
      let w = world_in steps x in
      let v = world_in steps y in
      let inside : i < length y.members = subst (λ k. i < k) (sym cy) lt in
      λ j. record {
        session = is j;
        manner = manner_by cause;
        step = which j;
        events = events j;
        changes = changes j;
        status = (sym (ap (λ (s : Session). s.status) (at-session y i inside)) ∙ (λ k. (session_at (world k) (is k)).status)) j;
        ending = ending_by ((sym (want-in y sy cy i) ∙ (λ k. want_in (world k) (is k))) j) (refused j);
        still = (sym (still-in x y sx sy cx cy i n) ∙ ap (λ m. still_below m i w v) (sym (length-world steps y ∙ cy))
            ∙ (λ k. still_below (length (world k).sessions) (is k) w (world k))) j;
        stale = (sym (stale-told x y cx cy i n (omega arith)) ∙ ap (λ m. stale_below steps m i w v) (sym (length-world steps y ∙ cy))
            ∙ (λ k. stale_below steps (length (world k).sessions) (is k) w (world k))) j;
      }

-- ---- events

-- what was told since, where the transcript grew so
since-is : (i : ℕ) (x y : Staged) (es : List Event) → (member_at y i).state.transcript ≡ (member_at x i).state.transcript ++ es → told_since i x y ≡ es
since-is i x y es grew =
    ap (drop (length (member_at x i).state.transcript)) grew ∙ drop-append_seam (member_at x i).state.transcript es

own-part : (i : ℕ) (es : List Event) → cond (i == i) es [] ≡ es
own-part i es = ap (λ b. cond b es []) (eq-eqb i i refl)

-- ---- a step that is not sent

-- a world whose session waits
pub sent-skips : (steps : List Step) (w : World) (k : ℕ) → waits_now w.waits (get_or steps k no_step).session ≡ true
    → send steps w k ≡ noted w (get_or steps k no_step).session (NotSent k)
sent-skips steps w k waits = ap (λ b. let v : World =
    elim b [
      | true ↦ noted w (get_or steps k no_step).session (NotSent k)
      | false ↦ settle
          (goes w (get_or steps k no_step).session (note (session_at w (get_or steps k no_step).session) (Sent k))
          (tasks_of (session_at w (get_or steps k no_step).session).status (get_or steps k no_step).statements))
    ] in v) waits

pub skipped-is : (steps : List Step) (n : ℕ) (x y : Staged) (k i : ℕ) → IsStage steps x → IsStage steps y → length x.members ≡ n
    → length y.members ≡ n → i < n
    → i ≡ (get_or steps k no_step).session → HasTold i (NotSent k) x y → world_in steps y ≡ send steps (world_in steps x) k
    → waits_now x.locks.waits i ≡ true
    → moment_told steps n x y i IsNotSent (Some k) no_trace ≡ moment_in steps x (Skips k)
skipped-is steps n x y k i sx sy cx cy lt is told sent waits =
    let there : member_at y i ≡ note_member (member_at x i) (NotSent k) = ap (λ (ms : List Member). get_or ms i no_member) told.members
    ∙ get_or-set_same x.members i (note_member (member_at x i) (NotSent k)) no_member (subst (λ m. i < m) (sym cx) lt) in
    moment-is steps n x y sx sy cx cy (Skips k) i (Some k) no_trace lt
    (sent ∙ sent-skips steps (world_in steps x) k (subst (λ c. waits_now x.locks.waits c ≡ true) is waits)) is refl
    (since-is i x y (NotSent k ∷ []) (ap (λ (m : Member). m.state.transcript) there)) refl refl

-- ---- a step that is sent

module _ (steps : List Step) (n : ℕ) (x y : Staged) (sx : IsStage steps x) (sy : IsStage steps y) (cx : length x.members ≡ n)
    (cy : length y.members ≡ n) where
  abbrev w : World
  w = world_in steps x

  abbrev owns : List Own
  owns = map (own_of steps) x.members

  long : length owns ≡ n
  long = length-map x.members (own_of steps) ∙ cx

  below : IsBelow (length owns) x.locks
  below = subst (λ k. IsBelow k x.locks) (sym (length-map x.members (own_of steps))) sx.within.below

  many : length w.sessions ≡ n
  many = length-world steps x ∙ cx

  in-x : (i : ℕ) → i < n → i < length x.members
  in-x i lt = subst (λ k. i < k) (sym cx) lt

  in-y : (i : ℕ) → i < n → i < length y.members
  in-y i lt = subst (λ k. i < k) (sym cy) lt

  -- the transcripts of the worlds are those of the stages
  grew : (i : ℕ) (es : List Event) → i < n → (session_at (world_in steps y) i).transcript ≡ (session_at w i).transcript ++ cond (i == i) es []
      → (member_at y i).state.transcript ≡ (member_at x i).state.transcript ++ es
  grew i es lt e =
      sym (ap (λ (s : Session). s.transcript) (at-session steps n y i (in-y i lt))) ∙ e
      ∙ (λ k. ap (λ (s : Session). s.transcript) (at-session steps n x i (in-x i lt)) k ++ own-part i es k)

  module _ (k i : ℕ) (lt : i < n) (is : i ≡ (get_or steps k no_step).session) (idle : waits_now x.locks.waits i ≡ false)
      (started : HasStarted steps k x y) where
    at-rest : rest_of steps (member_at x i).state.status (member_at x i).rest ≡ []
    at-rest = ap (rest_of steps (member_at x i).state.status) (none-rests (member_at x i).rest (sx.resting i (in-x i lt) ∙ idle))

    standing-is : session_in i (sent_standing x i k) ≡ told_only (session_at w i) (Sent k)
    standing-is =
        (λ j. let s : Session = record {
          overlay = Rattle.row_tables.specs.Layers.overlay_of i x.store;
          held = slice i x.locks.held;
          status = (member_at x i).state.status;
          rest = sym at-rest j;
          transcript = Sent k ∷ [];
        } in s)
        ∙ sym (ap (λ s. told_only s (Sent k)) (at-session steps n x i (in-x i lt)))

    scene-here : IsSceneOf n (scene_of w) i x.locks
    scene-here = record {
      scene = scene-is x.store x.locks x.locks owns i below (subst (λ m. i < m) (sym long) lt) (same-refl i x.store x.locks) refl;
      many = many;
    }

    sent-events : (member_at y i).state.transcript ≡ (member_at x i).state.transcript ++ events_by steps w (Sends k)
    sent-events =
        grew i (events_by steps w (Sends k)) lt (ap (λ v. (session_at v i).transcript) started.world
        ∙ subst (λ c. (session_at (behind_by steps w (Sends k)) c).transcript
        ≡ (session_at w c).transcript ++ cond (c == c) (events_by steps w (Sends k)) [])
        (sym is)
        (goes-grows w (get_or steps k no_step).session (told_only (session_at w (get_or steps k no_step).session) (Sent k))
        (tasks_of (session_at w (get_or steps k no_step).session).status (get_or steps k no_step).statements) (subst (λ c. c < length w.sessions) is (subst (λ m. i < m) (sym many) lt))
        (get_or steps k no_step).session))

    sent-tasks : tasks_from (member_at x i).state.status (drop 0 (statements_of steps k)) 0
        ≡ tasks_of (session_at w (get_or steps k no_step).session).status (statements_of steps k)
    sent-tasks = tasks_from-start (member_at x i).state.status (statements_of steps k)
        ∙ ap (λ (s : Session). tasks_of s.status (statements_of steps k)) (standing-is ∙ ap (λ c. told_only (session_at w c) (Sent k)) is)

    pub sent-is : (m : Moment) → IsTold steps n x y i IsSent (Some k) [] (sent_standing x i k)
        (tasks_from (member_at x i).state.status (drop 0 (statements_of steps k)) 0) m
        → m ≡ moment_in steps x (Sends k)
    sent-is m told =
        let traced = told.traces (scene_of w) scene-here in
        told.is
        ∙ moment-is steps n x y sx sy cx cy (Sends k) i (Some k) told.trace lt started.world is refl (since-is i x y (events_by steps w (Sends k)) sent-events)
        (sym (ap (λ (t : Trace). t.changes) traced)
        ∙ (λ j. go_changes (scene_of w) (is j) ((standing-is ∙ ap (λ c. told_only (session_at w c) (Sent k)) is) j) x.store.committed
        (sent-tasks j)))
        (sym (ap (λ (t : Trace). t.refusal) traced)
        ∙ (λ j. go_refusal (scene_of w) (is j) ((standing-is ∙ ap (λ c. told_only (session_at w c) (Sent k)) is) j) x.store.committed
        (sent-tasks j)))

  -- ---- a wait that is granted

  module _ (s : Spot) (next : IsNext x.locks s) (distinct : Distinct x.locks.waits) (world : world_in steps y ≡ granted w s) where
    abbrev i : ℕ
    i = s.wait.session

    known : i < n
    known = subst (λ m. i < m) cx (session-known steps x s sx next)

    here : session_at w i ≡ session_of x.store x.locks i (own_of steps (member_at x i))
    here = at-session steps n x i (in-x i known)

    abbrev t1 : Locks
    t1 = record { held = x.locks.held; waits = s.before ++ s.after }

    left-out : (us : List Wait) (v : Wait) (vs : List Wait) → EachWait (λ u. u.session < length owns) (us ++ v ∷ vs)
        → EachWait (λ u. u.session < length owns) (us ++ vs)
    left-out [] v vs p = p.1
    left-out (u ∷ us) v vs p = (p.0, left-out us v vs p.1)

    scene-there : IsSceneOf n (scene_of (without w s)) i (grant x.locks s)
    scene-there = record {
      scene = scene-is x.store t1 (grant x.locks s) owns i (record {
        holders = below.holders;
        waiters = left-out s.before s.wait s.after (subst (EachWait (λ u. u.session < length owns)) (sym next.there) below.waiters);
      }) (subst (λ m. i < m) (sym long) known) (same-taken x.store t1 i s.wait.resource s.wait.mode) refl;
      many = many;
    }

    standing-there : session_in i (resumed_standing x s) ≡ told_only (holding w s) Resumed
    standing-there =
        ap (λ (u : Session). told_only (record u { rest = [] }) Resumed) (session-taken x.store t1 i s.wait.resource s.wait.mode (own_of steps (member_at x i)))
        ∙ sym (ap (λ (u : Session). told_only (record (taking u s.wait.resource s.wait.mode) { rest = [] }) Resumed) here)

    had-is : had_of (wait_of x.locks i) ≡ Had s.wait.resource (wanted (get (session_at w i).held s.wait.resource) s.wait.mode) ∷ []
    had-is =
        ap (λ o. had_of (Rattle.std.specs.Option.option_map (λ (u : Wait). (u.resource, wanted_by (look_in x.locks) u)) o))
        (found-is x.locks s distinct next.there)
        ∙ ap (λ o. Had s.wait.resource (wanted o s.wait.mode) ∷ []) (sym (get-slice i x.locks.held s.wait.resource)
        ∙ sym (ap (λ (u : Session). get u.held s.wait.resource) here))

    resumed-events : (member_at y i).state.transcript ≡ (member_at x i).state.transcript ++ events_by steps w (GoesOn s)
    resumed-events = grew i (events_by steps w (GoesOn s)) known (ap (λ v. (session_at v i).transcript) world
        ∙ granted-grows steps w s (subst (λ m. i < m) (sym many) known) i)

    pub resumed-is : (m : Moment) → IsResumedSo n steps x y s m → m ≡ moment_in steps x (GoesOn s)
    resumed-is m so =
        let told = so.told in
        let traced = told.traces (scene_of (without w s)) scene-there in
        let tasks : tasks_from (member_at x i).state.status (drop so.rest.point.statement (statements_of steps so.rest.step)) so.rest.point.request ≡ (session_at w i).rest =
        sym (ap (λ (u : Session). u.rest) here ∙ ap (rest_of steps (member_at x i).state.status) so.there) in
        told.is
        ∙ moment-is steps n x y sx sy cx cy (GoesOn s) i (last_sent None (member_at x i).state.transcript) told.trace known world refl
        (ap (λ (u : Session). last_sent None u.transcript) (sym here))
        (since-is i x y (events_by steps w (GoesOn s)) resumed-events)
        (sym (ap (λ (t : Trace). t.changes) traced)
        ∙ (λ j. had-is j ++ go_changes (scene_of (without w s)) i (standing-there j) x.store.committed (tasks j)))
        (sym (ap (λ (t : Trace). t.refusal) traced)
        ∙ (λ j. go_refusal (scene_of (without w s)) i (standing-there j) x.store.committed (tasks j)))

-- ---- settling

abbrev settle_moments : List Step → ℕ → World → List Moment
settle_moments steps n w = map (moment_of steps) (settle_goings n w)

no-moments : (steps : List Step) (n : ℕ) (w : World) → next_in w ≡ None → settle_moments steps n w ≡ []
no-moments steps zero w is = refl
no-moments steps (suc n) w is = ap (λ (o : Option Spot). let x : List Moment =
    map (moment_of steps) (elim o [ None ↦ [] | Some spot ↦ record { world = w; cause = GoesOn spot } ∷ settle_goings n (granted w spot) ]) in x) is

-- more fuel than is left to do changes nothing
moments-fuel : (steps : List Step) (n m : ℕ) (w : World) → Steady w → left_to_do w ≤ n → left_to_do w ≤ m
    → settle_moments steps n w ≡ settle_moments steps m w
moments-fuel steps zero m w st a b = sym (no-moments steps m w (none-left w a))
moments-fuel steps (suc n) zero w st a b = no-moments steps (suc n) w (none-left w b)
moments-fuel steps (suc n) (suc m) w st a b = at (next_in w) refl (λ spot g.
    moments-fuel steps n m (granted w spot) (granted-steady w spot st g) (let h = granted-left w spot st g in omega arith) (let h = granted-left w spot st g
    in omega arith))
  where
    at : (o : Option Spot) → next_in w ≡ o
        → ((spot : Spot) → Grant (length w.sessions) (look_of w) w.waits spot
        → settle_moments steps n (granted w spot) ≡ settle_moments steps m (granted w spot))
        → (let x : List Moment =
        map (moment_of steps) (elim o [ None ↦ [] | Some spot ↦ record { world = w; cause = GoesOn spot } ∷ settle_goings n (granted w spot) ])
        in x)
        ≡ map (moment_of steps) (elim o [ None ↦ [] | Some spot ↦ record { world = w; cause = GoesOn spot } ∷ settle_goings m (granted w spot) ])
    at None is rec = refl
    at (Some spot) is rec = ap (λ ms. moment_of steps (record { world = w; cause = GoesOn spot }) ∷ ms)
        (rec spot (next-grant (length w.sessions) (look_of w) w.waits spot is))

pub settling-none : (steps : List Step) (w : World) → next_in w ≡ None → settling steps w ≡ []
settling-none steps w is = no-moments steps (left_to_do w) w is

-- where a wait is ripe, the moment of its session comes first
pub settling-grant : (steps : List Step) (w : World) (spot : Spot) → Steady w → next_in w ≡ Some spot
    → settling steps w ≡ moment_of steps (record { world = w; cause = GoesOn spot }) ∷ settling steps (granted w spot)
settling-grant steps w spot st is =
    let g = next-grant (length w.sessions) (look_of w) w.waits spot is in
    let less = granted-left w spot st g in
    moments-fuel steps (left_to_do w) (suc (left_to_do w)) w st (omega arith) (omega arith)
    ∙ ap (λ (o : Option Spot). let x : List Moment =
    map (moment_of steps) (elim o [ None ↦ [] | Some s ↦ record { world = w; cause = GoesOn s } ∷ settle_goings (left_to_do w) (granted w s) ])
    in x) is
    ∙ ap (λ ms. moment_of steps (record { world = w; cause = GoesOn spot }) ∷ ms)
    (moments-fuel steps (left_to_do w) (left_to_do (granted w spot)) (granted w spot) (granted-steady w spot st g) (omega arith) (omega arith))

-- ---- the moments of a step

pub moments-skip : (steps : List Step) (x : Staged) (k : ℕ) → waits_now x.locks.waits (get_or steps k no_step).session ≡ true
    → moments steps (world_in steps x) k ≡ moment_in steps x (Skips k) ∷ []
moments-skip steps x k waits =
    let w = world_in steps x in
    ap (λ b. let ms : List Moment =
    map (moment_of steps)
    (elim b [
      | true ↦ record { world = w; cause = Skips k } ∷ []
      | false ↦ record { world = w; cause = Sends k } ∷ settle_goings (left_to_do (behind_by steps w (Sends k))) (behind_by steps w (Sends k))
    ])
    in ms) waits

pub moments-send : (steps : List Step) (x : Staged) (k : ℕ) → waits_now x.locks.waits (get_or steps k no_step).session ≡ false
    → moments steps (world_in steps x) k ≡ moment_in steps x (Sends k) ∷ settling steps (behind_by steps (world_in steps x) (Sends k))
moments-send steps x k idle =
    let w = world_in steps x in
    ap (λ b. let ms : List Moment =
    map (moment_of steps)
    (elim b [
      | true ↦ record { world = w; cause = Skips k } ∷ []
      | false ↦ record { world = w; cause = Sends k } ∷ settle_goings (left_to_do (behind_by steps w (Sends k))) (behind_by steps w (Sends k))
    ])
    in ms) idle

-- ---- what is shown beside the moments

module _ (steps : List Step) (n : ℕ) (s : Staged) (stage : IsStage steps s) (count : length s.members ≡ n) where
  pub begun-is : (m : ℕ) → m ≤ n → begun_in m s ≡ begun m (world_in steps s)
  begun-is zero le = refl
  begun-is (suc m) le = λ k. begun-is m (omega arith) k
      ++ (let x = at-session steps n s m (omega (arith, count, le)) in
      record { status = (sym x k).status; locks = entries (sym x k).held }) ∷ []

  pub standings-are : (m : ℕ) → m ≤ n → standings_in m n s ≡ standings m (world_in steps s)
  standings-are zero le = refl
  standings-are (suc m) le = λ k. standings-are m (omega arith) k
      ++ standing_by (sym (want-in steps n s stage count m) k) (sym (at-session steps n s m (omega (arith, count, le))) k).status ∷ []
