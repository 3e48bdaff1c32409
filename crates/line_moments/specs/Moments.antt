-- The moments of a line: each time a session goes, from where its step is sent or goes on to where it ends or has to wait, and each step that
-- is not sent.
use Rattle.std.specs.Prelude.{◌≡◌, ◌≢◌, not, filter, ℕ, zero, suc, Bool, true, false, cond, ◌==◌, List, [], ◌∷◌, ◌++◌, length, map, get_or, Option, Some, None}
use Rattle.std.specs.Prelude.{⊤, ◌⊎◌}
use Rattle.std.specs.List.{list_any}
use Rattle.finite_maps.specs.Map.{get, insert, empty, entries}
use Rattle.lock_modes.specs.declared.mode.Mode.{Mode}
use Rattle.lock_modes.specs.declared.resource.Resource.{Resource}
use Rattle.lock_modes.specs.Rows.{Rows'}
use Rattle.lock_queues.specs.declared.wait.Wait.{Wait}
use Rattle.lock_queues.specs.Locks.{Spot, next_grant, waits_now, wanted, may_have, closes_ring}
use Rattle.lock_queues.specs.declared.reason.Edge.{Edge}
use Rattle.lock_queues.specs.Reasons.{same_edges, Want, want_at, want_of, last_spot, IsExact}
use Rattle.lock_queues.specs.declared.told.Hop.{Hop}
use Rattle.lock_queues.specs.Rings.{ring_told, IsRingTold}
use Rattle.bound_specs.specs.Spec.{Step, no_step}
use Rattle.events.specs.declared.event.Event.{Event}
use Rattle.events.specs.declared.event.Fault.{Fault}
use Rattle.events.specs.declared.event.Event.TheVariants.{Sent, Row as RowEvent, Rows, Inserted, Updated, Deleted, Began, Committed, RolledBack}
use Rattle.events.specs.declared.event.Event.TheVariants.{Locked, Set, Warned, Failed, Waiting, Resumed, Done, NotSent}
use Rattle.machine_model.specs.declared.status.Status.{Status}
use Rattle.machine_model.specs.declared.status.Status.TheVariants.{Outside, InBlock, Broken}
use Rattle.machine_model.specs.declared.reply.Reply.TheVariants.{Had as IsHad, Waits, Refused}
use Rattle.machine_model.specs.Session.{Session, Task, Ask, Do, Goes, Fails, Held, Kind, Begins, Commits, RollsBack, Works, kind, perform, note, tasks_of}
use Rattle.machine_model.specs.Go.{Scene, go, taking, is_broken, reply_in, look_with, waiting_with}
use Rattle.machine_model.specs.World.{World, session_at, look_of, scene_of, goes, granted, left_to_do, noted, send}
use Rattle.machine_model.specs.Sound.{Steady}
use Rattle.machine_model.specs.Start.{is_failure}
use Rattle.machine_model.specs.Outcome.{IsOwnStep}
use Rattle.line_moments.specs.declared.moment.Change.{Change}
use Rattle.line_moments.specs.declared.moment.Change.TheVariants.{Had, LetGo}
use Rattle.line_moments.specs.declared.moment.Refusal.{Refusal}
use Rattle.line_moments.specs.declared.moment.Refusal.TheVariants.{Closes, Wants}
use Rattle.line_moments.specs.declared.moment.Manner.{Manner}
use Rattle.line_moments.specs.declared.moment.Manner.TheVariants.{IsSent, IsResumed, IsNotSent}
use Rattle.line_moments.specs.declared.moment.Ending.{Ending}
use Rattle.line_moments.specs.declared.moment.Ending.TheVariants.{Ended, Awaits, Loses, Lacks}
use Rattle.line_moments.specs.declared.moment.Still.{Still}
use Rattle.line_moments.specs.declared.moment.Moment.{Moment}
use Rattle.line_moments.specs.Stale.{stale_below}

-- ---- who goes, and why, in the order of going

-- a step is sent, a wait is granted, or a step is not sent
pub data Cause : Type 0 where
  Sends : (step : ℕ) → Cause
  GoesOn : (spot : Spot) → Cause
  Skips : (step : ℕ) → Cause

-- one session going, in the world before it
pub record Going : Type 0 where
  pub world : World
  pub cause : Cause

-- the world after it
abbrev pub behind_by : List Step → World → Cause → World
behind_by steps w (Sends k) =
    goes w (get_or steps k no_step).session (note (session_at w (get_or steps k no_step).session) (Sent k)) (tasks_of (session_at w (get_or steps k no_step).session).status (get_or steps k no_step).statements)
behind_by steps w (GoesOn spot) = granted w spot
behind_by steps w (Skips k) = noted w (get_or steps k no_step).session (NotSent k)

abbrev pub behind : List Step → Going → World
behind steps g = behind_by steps g.world g.cause

-- the waits that are granted while one is ripe
abbrev pub settle_goings : ℕ → World → List Going
settle_goings zero w = []
settle_goings (suc n) w =
    elim (next_grant (length w.sessions) (look_of w) w.waits) [
      | None ↦ []
      | Some spot ↦ record { world = w; cause = GoesOn spot } ∷ settle_goings n (granted w spot)
    ]

-- of the step numbered k, sent
abbrev pub goings : List Step → World → ℕ → List Going
goings steps w k =
    elim (waits_now w.waits (get_or steps k no_step).session) [
      | true ↦ record { world = w; cause = Skips k } ∷ []
      | false ↦ record { world = w; cause = Sends k } ∷ settle_goings (left_to_do (behind_by steps w (Sends k))) (behind_by steps w (Sends k))
    ]

-- of a line
abbrev pub line_goings : List Step → World → List ℕ → List Going
line_goings steps w [] = []
line_goings steps w (k ∷ ks) = goings steps w k ++ line_goings steps (send steps w k) ks

-- ---- what a session does while it goes

-- a transaction that ends lets go of what it holds, if it holds anything
abbrev pub let_go_by : List (Resource × Mode) → List Change
let_go_by [] = []
let_go_by (x ∷ xs) = LetGo ∷ []

abbrev pub let_go : Held → List Change
let_go h = let_go_by (entries h)

-- at the end of a step
abbrev pub end_changes : Status → Held → List Change
end_changes Outside h = let_go h
end_changes (InBlock of) h = []
end_changes Broken h = []

-- behind a statement that goes
abbrev pub did_changes : Kind → Held → List Change
did_changes (Begins level) h = []
did_changes Commits h = let_go h
did_changes RollsBack h = let_go h
did_changes Works h = []

-- the requests that are had and the locks let go, in order
abbrev pub go_changes : Scene → ℕ → Session → Rows' → List Task → List Change
go_changes e i s rows [] = end_changes s.status s.held
go_changes e i s rows (Ask nowait r m ∷ ts) =
    elim (is_broken s.status) [
      | true ↦ let_go s.held
      | false ↦ elim (reply_in e i s nowait r m) [
        | IsHad ↦ Had r (wanted (get s.held r) m) ∷ go_changes e i (taking s r m) rows ts
        | Waits ↦ []
        | Refused f ↦ let_go s.held
      ]
    ]
go_changes e i s rows (Do st ∷ ts) =
    elim (perform s rows st) [ Goes s2 rows2 ↦ did_changes (kind st) s.held ++ go_changes e i s2 rows2 ts | Fails f ↦ let_go s.held ]

-- of a request that is refused: where it refuses to wait, what its wait would want, and whom it would wait for
abbrev pub refusal : Scene → ℕ → Held → Bool → Resource → Mode → Refusal
refusal e i held nowait r m =
    elim nowait [
      | true ↦ Wants (want_at e.count (look_with e i held) (last_spot e.waits i r m))
      | false ↦ Closes (ring_told e.count (look_with e i held) (waiting_with e i r m) i)
    ]

-- why the session is refused a request, if it is
abbrev pub go_refusal : Scene → ℕ → Session → Rows' → List Task → Option Refusal
go_refusal e i s rows [] = None
go_refusal e i s rows (Ask nowait r m ∷ ts) =
    elim (is_broken s.status) [
      | true ↦ None
      | false ↦ elim (reply_in e i s nowait r m) [
        | IsHad ↦ go_refusal e i (taking s r m) rows ts
        | Waits ↦ None
        | Refused f ↦ Some (refusal e i s.held nowait r m)
      ]
    ]
go_refusal e i s rows (Do st ∷ ts) = elim (perform s rows st) [ Goes s2 rows2 ↦ go_refusal e i s2 rows2 ts | Fails f ↦ None ]

-- ---- a moment

abbrev pub sent_step : Event → Option ℕ
sent_step (Sent k) = Some k
sent_step (RowEvent r) = None
sent_step (Rows n) = None
sent_step (Inserted n) = None
sent_step (Updated n) = None
sent_step (Deleted n) = None
sent_step Began = None
sent_step Committed = None
sent_step RolledBack = None
sent_step Locked = None
sent_step Set = None
sent_step (Warned w) = None
sent_step (Failed f) = None
sent_step Waiting = None
sent_step Resumed = None
sent_step Done = None
sent_step (NotSent k) = None

-- the step that was sent last
abbrev pub last_sent : Option ℕ → List Event → Option ℕ
last_sent k [] = k
last_sent k (e ∷ es) = last_sent (elim (sent_step e) [ None ↦ k | Some n ↦ Some n ]) es

abbrev pub session_by : List Step → Cause → ℕ
session_by steps (Sends k) = (get_or steps k no_step).session
session_by steps (GoesOn spot) = spot.wait.session
session_by steps (Skips k) = (get_or steps k no_step).session

abbrev pub manner_by : Cause → Manner
manner_by (Sends k) = IsSent
manner_by (GoesOn spot) = IsResumed
manner_by (Skips k) = IsNotSent

abbrev pub step_by : World → Cause → Option ℕ
step_by w (Sends k) = Some k
step_by w (GoesOn spot) = last_sent None (session_at w spot.wait.session).transcript
step_by w (Skips k) = Some k

-- the session with nothing told but this
abbrev pub told_only : Session → Event → Session
told_only s e = record s { transcript = e ∷ [] }

-- the session whose wait is granted
abbrev pub holding : World → Spot → Session
holding w spot = record (taking (session_at w spot.wait.session) spot.wait.resource spot.wait.mode) { rest = [] }

-- the world without that wait
abbrev pub without : World → Spot → World
without w spot = record w { waits = spot.before ++ spot.after }

-- what the session was told
abbrev pub events_by : List Step → World → Cause → List Event
events_by steps w (Sends k) =
    let st = get_or steps k no_step in
    (go (scene_of w) st.session (told_only (session_at w st.session) (Sent k)) w.rows (tasks_of (session_at w st.session).status st.statements)).session.transcript
events_by steps w (GoesOn spot) =
    let i = spot.wait.session in
    (go (scene_of (without w spot)) i (told_only (holding w spot) Resumed) w.rows (session_at w i).rest).session.transcript
events_by steps w (Skips k) = NotSent k ∷ []

-- the locks that it got and let go
abbrev pub changes_by : List Step → World → Cause → List Change
changes_by steps w (Sends k) =
    let st = get_or steps k no_step in go_changes (scene_of w) st.session (told_only (session_at w st.session) (Sent k)) w.rows (tasks_of (session_at w st.session).status st.statements)
changes_by steps w (GoesOn spot) =
    let i = spot.wait.session in
    Had spot.wait.resource (wanted (get (session_at w i).held spot.wait.resource) spot.wait.mode)
    ∷ go_changes (scene_of (without w spot)) i (told_only (holding w spot) Resumed) w.rows (session_at w i).rest
changes_by steps w (Skips k) = []

-- why it was refused a request, if it was
abbrev pub refusal_by : List Step → World → Cause → Option Refusal
refusal_by steps w (Sends k) =
    let st = get_or steps k no_step in go_refusal (scene_of w) st.session (told_only (session_at w st.session) (Sent k)) w.rows (tasks_of (session_at w st.session).status st.statements)
refusal_by steps w (GoesOn spot) =
    let i = spot.wait.session in go_refusal (scene_of (without w spot)) i (told_only (holding w spot) Resumed) w.rows (session_at w i).rest
refusal_by steps w (Skips k) = None

-- what the session waits for in the world
abbrev pub want_in : World → ℕ → Option Want
want_in w i = want_of (length w.sessions) (look_of w) w.waits i

-- whom the session waits for in the world
abbrev pub edges_in : World → ℕ → List Edge
edges_in w c = elim (want_in w c) [ None ↦ [] | Some want ↦ want.edges ]

-- the edges, if there are any and they are other ones than before
abbrev pub changed_edges : ℕ → List Edge → List Edge → List Still
changed_edges c old [] = []
changed_edges c old (e ∷ es) = cond (same_edges old (e ∷ es)) [] (record { session = c; edges = e ∷ es } ∷ [])

-- of the sessions below the number but i, those that wait for other reasons in v than in w
abbrev pub still_below : ℕ → ℕ → World → World → List Still
still_below zero i w v = []
still_below (suc n) i w v = still_below n i w v ++ cond (n == i) [] (changed_edges n (edges_in w n) (edges_in v n))

abbrev pub ending_by : Option Want → Option Refusal → Ending
ending_by (Some want) refusal = Awaits want
ending_by None None = Ended
ending_by None (Some (Closes ring)) = Loses ring
ending_by None (Some (Wants want)) = Lacks want

abbrev pub moment_of : List Step → Going → Moment
moment_of steps g =
    let i = session_by steps g.cause in
    let v = behind steps g in
    record {
      session = i;
      manner = manner_by g.cause;
      step = step_by g.world g.cause;
      events = events_by steps g.world g.cause;
      changes = changes_by steps g.world g.cause;
      status = (session_at v i).status;
      ending = ending_by (want_in v i) (refusal_by steps g.world g.cause);
      still = still_below (length v.sessions) i g.world v;
      stale = stale_below steps (length v.sessions) i g.world v;
    }

-- the moments of the step numbered k, sent
abbrev pub moments : List Step → World → ℕ → List Moment
moments steps w k = map (moment_of steps) (goings steps w k)

-- the moments of a line
abbrev pub line_moments : List Step → World → List ℕ → List Moment
line_moments steps w ks = map (moment_of steps) (line_goings steps w ks)

-- ---- moments forgotten

-- what the session was told in these moments
abbrev pub told_to : ℕ → List Moment → List Event
told_to c [] = []
told_to c (m ∷ ms) = cond (m.session == c) m.events [] ++ told_to c ms

-- what each of the sessions below the number was told
abbrev pub told_by : ℕ → List Moment → List (List Event)
told_by zero ms = []
told_by (suc n) ms = told_by n ms ++ told_to n ms ∷ []

-- the locks that the session got and let go in these moments
abbrev pub changes_to : ℕ → List Moment → List Change
changes_to c [] = []
changes_to c (m ∷ ms) = cond (m.session == c) m.changes [] ++ changes_to c ms

-- what is held after these changes
abbrev pub changed : Held → List Change → Held
changed h [] = h
changed h (Had r m ∷ cs) = changed (insert h r m) cs
changed h (LetGo ∷ cs) = changed empty cs

-- no wait is ripe
abbrev pub IsSettled : World → Type 0
IsSettled w = next_grant (length w.sessions) (look_of w) w.waits ≡ None

-- why it goes then: its wait is the next to be granted; or nothing is ripe and a step comes, of a session that does not wait, or of one that does
abbrev pub IsDue : List Step → World → Cause → Type 0
IsDue steps w (Sends k) = (waits_now w.waits (get_or steps k no_step).session ≡ false) × IsSettled w
IsDue steps w (GoesOn spot) = next_grant (length w.sessions) (look_of w) w.waits ≡ Some spot
IsDue steps w (Skips k) = (waits_now w.waits (get_or steps k no_step).session ≡ true) × IsSettled w

-- the step that comes, if one does
abbrev pub new_step : Cause → List ℕ
new_step (Sends k) = k ∷ []
new_step (GoesOn spot) = []
new_step (Skips k) = k ∷ []

-- the steps that come, in their order
abbrev pub new_steps : List Going → List ℕ
new_steps [] = []
new_steps (g ∷ gs) = new_step g.cause ++ new_steps gs

-- one goes behind the other, each when it is due, from the one world to the other
abbrev pub Leads : List Step → World → List Going → World → Type 0
Leads steps w [] v = w ≡ v
Leads steps w (g ∷ gs) v = (g.world ≡ w) × IsDue steps w g.cause × Leads steps (behind_by steps w g.cause) gs v

-- ---- what is told of each going

-- what a moment tells first: that its step is sent, that its session goes on, or that its step is not sent, which is all it tells
abbrev pub Opens : Manner → Option ℕ → List Event → Type 0
Opens IsSent step es = (k : ℕ) × (rest : List Event) × (step ≡ Some k) × (es ≡ Sent k ∷ rest)
Opens IsResumed step es = (rest : List Event) × (es ≡ Resumed ∷ rest)
Opens IsNotSent step es = (k : ℕ) × (step ≡ Some k) × (es ≡ NotSent k ∷ [])

-- the waits of the other sessions, in their order
abbrev pub waits_but : ℕ → List Wait → List Wait
waits_but i waits = filter (λ w. not (w.session == i)) waits

-- in the world behind it, which is steady, each session was told what it was told before, and its own what the moment tells; each holds what it held
-- before, its own with what it got and let go; its own stands as the moment tells; and nothing is changed of the others, nor of their waits
pub record IsTrue (steps : List Step) (g : Going) : Type 0 where
  pub steady : Steady (behind steps g)
  pub opens : Opens (moment_of steps g).manner (moment_of steps g).step (moment_of steps g).events
  pub told : (c : ℕ) → (session_at (behind steps g) c).transcript
      ≡ (session_at g.world c).transcript ++ cond ((moment_of steps g).session == c) (moment_of steps g).events []
  pub held : (c : ℕ) → (session_at (behind steps g) c).held
      ≡ changed (session_at g.world c).held (cond ((moment_of steps g).session == c) (moment_of steps g).changes [])
  pub status : (session_at (behind steps g) (moment_of steps g).session).status ≡ (moment_of steps g).status
  pub count : length (behind steps g).sessions ≡ length g.world.sessions
  pub others : (c : ℕ) → c ≢ (moment_of steps g).session → session_at (behind steps g) c ≡ session_at g.world c
  pub waits : waits_but (moment_of steps g).session (behind steps g).waits ≡ waits_but (moment_of steps g).session g.world.waits

-- ---- the locks of a moment

-- the lock of the wait that is granted
abbrev pub granted_by : World → Cause → List Change
granted_by w (Sends k) = []
granted_by w (GoesOn spot) = Had spot.wait.resource (wanted (get (session_at w spot.wait.session).held spot.wait.resource) spot.wait.mode) ∷ []
granted_by w (Skips k) = []

-- what its session holds when it goes on
abbrev pub held_from : List Step → World → Cause → Held
held_from steps w cause = changed (session_at w (session_by steps cause)).held (granted_by w cause)

-- the tasks that it goes on with
abbrev pub tasks_by : List Step → World → Cause → List Task
tasks_by steps w (Sends k) = tasks_of (session_at w (get_or steps k no_step).session).status (get_or steps k no_step).statements
tasks_by steps w (GoesOn spot) = (session_at w spot.wait.session).rest
tasks_by steps w (Skips k) = []

-- the changes of tasks that are all done: each request is had, in the mode that covers what it asks and what is held there, and a statement that ends a
-- transaction lets go of what is held
abbrev pub changes_along : Held → List Task → List Change
changes_along h [] = []
changes_along h (Ask nowait r m ∷ ts) = Had r (wanted (get h r) m) ∷ changes_along (insert h r (wanted (get h r) m)) ts
changes_along h (Do st ∷ ts) = did_changes (kind st) h ++ changes_along (changed h (did_changes (kind st) h)) ts

-- where a session stops along its tasks: behind the last one, at a request that waits, or at a task that fails
pub data Halt : Type 0 where
  AtEnd : Halt
  AtWait : (resource : Resource) (mode : Mode) (rest : List Task) → Halt
  AtFault : (task : Task) (rest : List Task) → Halt

-- the tasks that are not done
abbrev pub left_at : Halt → List Task
left_at AtEnd = []
left_at (AtWait resource mode rest) = Ask false resource mode ∷ rest
left_at (AtFault task rest) = task ∷ rest

-- what is let go there, by a session of this status that holds so much
abbrev pub let_go_at : Halt → Status → Held → List Change
let_go_at AtEnd status h = end_changes status h
let_go_at (AtWait resource mode rest) status h = []
let_go_at (AtFault task rest) status h = let_go h

-- a fault is told
abbrev pub tells_fault : List Event → Bool
tells_fault es = list_any is_failure es

-- what is seen of it there: its wait came last, with what is left to do behind it; or it was told of a fault; or neither
abbrev pub IsSeenAt : World → ℕ → List Event → Halt → Type 0
IsSeenAt v i es AtEnd = (waits_now v.waits i ≡ false) × (tells_fault es ≡ false)
IsSeenAt v i es (AtWait resource mode rest) =
    (waits : List Wait) × (v.waits ≡ waits ++ record { session = i; resource = resource; mode = mode } ∷ []) × ((session_at v i).rest ≡ rest)
    × (tells_fault es ≡ false)
IsSeenAt v i es (AtFault task rest) = (waits_now v.waits i ≡ false) × (tells_fault es ≡ true)

-- what the others hold and wait for while it goes
abbrev pub scene_by : World → Cause → Scene
scene_by w (Sends k) = scene_of w
scene_by w (GoesOn spot) = scene_of (without w spot)
scene_by w (Skips k) = scene_of w

-- the session when it goes on, with nothing told but that
abbrev pub going_by : List Step → World → Cause → Session
going_by steps w (Sends k) = told_only (session_at w (get_or steps k no_step).session) (Sent k)
going_by steps w (GoesOn spot) = told_only (holding w spot) Resumed
going_by steps w (Skips k) = told_only (session_at w (get_or steps k no_step).session) (NotSent k)

-- it does the tasks one after another, and comes from the one state to the other: each request may be had, and each statement goes
abbrev pub Does : Scene → ℕ → Session → Rows' → List Task → Session → Rows' → Type 0
Does e i s rows [] s2 rows2 = (s ≡ s2) × (rows ≡ rows2)
Does e i s rows (Ask nowait r m ∷ ts) s2 rows2 =
    (is_broken s.status ≡ false) × (may_have e.count e.look e.waits i (get s.held r) r m ≡ true) × Does e i (taking s r m) rows ts s2 rows2
Does e i s rows (Do st ∷ ts) s2 rows2 = (s3 : Session) × (rows3 : Rows') × (perform s rows st ≡ Goes s3 rows3) × Does e i s3 rows3 ts s2 rows2

-- in this state it can do no more: nothing is left; or the request has to wait; or the task fails, a request in a failed block or by a refusal
abbrev pub StopsAt : Scene → ℕ → Session → Rows' → Halt → Type 0
StopsAt e i s rows AtEnd = ⊤
StopsAt e i s rows (AtWait resource mode rest) = (is_broken s.status ≡ false) × (reply_in e i s false resource mode ≡ Waits)
StopsAt e i s rows (AtFault (Ask nowait r m) rest) = (is_broken s.status ≡ true) ⊎ ((f : Fault) × (reply_in e i s nowait r m ≡ Refused f))
StopsAt e i s rows (AtFault (Do st) rest) = (f : Fault) × (perform s rows st ≡ Fails f)

-- wherever something is let go, something is held
abbrev pub LetsGoOfHeld : Held → List Change → Type 0
LetsGoOfHeld h [] = ⊤
LetsGoOfHeld h (Had r m ∷ cs) = LetsGoOfHeld (insert h r m) cs
LetsGoOfHeld h (LetGo ∷ cs) = (entries h ≢ []) × LetsGoOfHeld empty cs

-- the session does its tasks, the first of them before the others, up to where it stops. Behind the lock of the wait that was granted, the locks that
-- are told are those of the requests that it had on that way, in their order; and what is let go was held
pub record AreAsked (steps : List Step) (g : Going) : Type 0 where
  pub done : List Task
  pub halt : Halt
  pub tasks : tasks_by steps g.world g.cause ≡ done ++ left_at halt
  pub session : Session
  pub rows : Rows'
  pub does : Does (scene_by g.world g.cause) (session_by steps g.cause) (going_by steps g.world g.cause) g.world.rows done session rows
  pub stops : StopsAt (scene_by g.world g.cause) (session_by steps g.cause) session rows halt
  pub changes : (moment_of steps g).changes ≡ granted_by g.world g.cause ++ (changes_along (held_from steps g.world g.cause) done
      ++ let_go_at halt (moment_of steps g).status (changed (held_from steps g.world g.cause) (changes_along (held_from steps g.world g.cause) done)))
  pub seen : IsSeenAt (behind steps g) (session_by steps g.cause) (moment_of steps g).events halt
  pub held : LetsGoOfHeld (session_at g.world (session_by steps g.cause)).held (moment_of steps g).changes

-- and a step that is not sent changes no lock
abbrev pub AreAskedBy : List Step → World → Cause → Type 0
AreAskedBy steps w (Sends k) = AreAsked steps (record { world = w; cause = Sends k })
AreAskedBy steps w (GoesOn spot) = AreAsked steps (record { world = w; cause = GoesOn spot })
AreAskedBy steps w (Skips k) = (moment_of steps (record { world = w; cause = Skips k })).changes ≡ []

-- ---- what is told of a refused request

-- in the scene a session went on with these tasks: it did the first ones, and behind them stood a request, which would have waited. It could not be had,
-- and its wait would have closed a ring, which is the one that is told. All that the session held then it let go
pub record IsLost (e : Scene) (i : ℕ) (s : Session) (rows : Rows') (tasks : List Task) (changes : List Change) (hops : List Hop) : Type 0 where
  pub done : List Task
  pub resource : Resource
  pub mode : Mode
  pub rest : List Task
  pub asked : tasks ≡ done ++ Ask false resource mode ∷ rest
  pub session : Session
  pub there : Rows'
  pub does : Does e i s rows done session there
  pub refused : may_have e.count e.look e.waits i (get session.held resource) resource mode ≡ false
  pub closes : closes_ring e.count (look_with e i session.held) (waiting_with e i resource mode) i ≡ true
  pub told : IsRingTold e.count (look_with e i session.held) (waiting_with e i resource mode) i hops
  pub held : session.held ≡ changed s.held (changes_along s.held done)
  pub changes_are : changes ≡ changes_along s.held done ++ let_go session.held

-- in the same way it came to a request that refuses to wait, and that could not be had. What is told is of that request, and its mode the one that covers
-- what was asked and what was held there. Had it waited, its wait would have come last: each reason of that wait is told, and no other
pub record IsLacking (e : Scene) (i : ℕ) (s : Session) (rows : Rows') (tasks : List Task) (changes : List Change) (want : Want) : Type 0 where
  pub done : List Task
  pub resource : Resource
  pub mode : Mode
  pub rest : List Task
  pub asked : tasks ≡ done ++ Ask true resource mode ∷ rest
  pub session : Session
  pub there : Rows'
  pub does : Does e i s rows done session there
  pub refused : may_have e.count e.look e.waits i (get session.held resource) resource mode ≡ false
  pub told_resource : want.resource ≡ resource
  pub told_mode : want.mode ≡ wanted (get session.held resource) mode
  pub told_asked : want.asked ≡ mode
  pub told_has : want.has ≡ get session.held resource
  pub exact : IsExact (look_with e i session.held) (waiting_with e i resource mode) i want
  pub last : exact.spot ≡ last_spot e.waits i resource mode
  pub held : session.held ≡ changed s.held (changes_along s.held done)
  pub changes_are : changes ≡ changes_along s.held done ++ let_go session.held

-- ---- the steps of moments

-- the step of each session that waits is known, and is one of its own
abbrev pub KnowsSteps : List Step → World → Type 0
KnowsSteps steps w = (c : ℕ) → waits_now w.waits c ≡ true → (k : ℕ) × (last_sent None (session_at w c).transcript ≡ Some k) × IsOwnStep steps c k

-- the moment is of a step of its session
abbrev pub IsOfStep : List Step → Going → Type 0
IsOfStep steps g = (k : ℕ) × (step_by g.world g.cause ≡ Some k) × IsOwnStep steps (session_by steps g.cause) k

-- the step that the session was sent last, behind a going: the one that this sends it, or else the one before
abbrev pub sent_by : List Step → ℕ → Option ℕ → Cause → Option ℕ
sent_by steps c last (Sends k) = cond ((get_or steps k no_step).session == c) (Some k) last
sent_by steps c last (GoesOn spot) = last
sent_by steps c last (Skips k) = last

-- and behind these goings
abbrev pub sent_to : List Step → ℕ → Option ℕ → List Going → Option ℕ
sent_to steps c last [] = last
sent_to steps c last (g ∷ gs) = sent_to steps c (sent_by steps c last g.cause) gs

-- the step of a moment behind these goings from the world: the one that comes, or where its session goes on the one that it was sent last
abbrev pub step_after : List Step → World → List Going → Cause → Option ℕ
step_after steps w before (Sends k) = Some k
step_after steps w before (GoesOn spot) = sent_to steps spot.wait.session (last_sent None (session_at w spot.wait.session).transcript) before
step_after steps w before (Skips k) = Some k

-- how the last of the session's moments ended behind these goings
abbrev pub ended_last : List Step → ℕ → Option Ending → List Going → Option Ending
ended_last steps c last [] = last
ended_last steps c last (g ∷ gs) = ended_last steps c (cond (session_by steps g.cause == c) (Some (moment_of steps g).ending) last) gs
