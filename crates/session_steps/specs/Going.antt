-- A session that goes, where its overlay lies in a store and its modes in a lock table.
use Rattle.std.specs.Prelude.{◌≡◌, ◌≢◌, ℕ, ◌<◌, ◌+◌, Bool, true, false, List, [], ◌∷◌, ◌++◌, drop, slice_get, Option, Some, None}
use Rattle.lock_modes.specs.declared.mode.Mode.{Mode}
use Rattle.lock_modes.specs.declared.resource.Resource.{Resource}
use Rattle.lock_queues.specs.Locks.{waits_now}
use Rattle.lock_queues.specs.LockTable.{Locks, look_in, queued, taken, let_go, slice}
use Rattle.lock_queues.specs.Rules.{MayHave, IsAnswer}
use Rattle.lock_queues.specs.declared.answer.Answer.TheVariants as answer
use Rattle.lock_queues.specs.Laws.{IsBelow}
use Rattle.row_tables.specs.Layers.{Layers, overlay_of, undone, kept}
use Rattle.bound_statements.specs.Plan.{Request, plan, nowait}
use Rattle.bound_statements.specs.declared.statement.Bound.{Bound}
use Rattle.events.specs.declared.event.Fault.{Fault}
use Rattle.events.specs.declared.event.Fault.TheVariants.{Deadlock, Unavailable}
use Rattle.events.specs.declared.event.Event.{Event}
use Rattle.events.specs.declared.event.Warning.TheVariants.{InBlock as AlreadyInBlock, NoBlock}
use Rattle.events.specs.declared.event.Event.TheVariants.{Failed, Waiting, Done, Began, Committed, RolledBack, Warned}
use Rattle.machine_model.specs.declared.status.Status.{Status}
use Rattle.machine_model.specs.declared.status.Status.TheVariants.{Outside, InBlock, Broken}
use Rattle.session_steps.specs.State.{SessionState}
use Rattle.bound_statements.specs.Levels.{asked}
use Rattle.bound_statements.specs.declared.statement.Level.{Level}
use Rattle.machine_model.specs.Session.{Task, Do, Session, Goes, Fails, perform, asks, behind, in_status, tasks_of, after_fault}
use Rattle.session_steps.specs.declared.asking.Asked.{Asked}
use Rattle.session_steps.specs.declared.asking.Asked.TheVariants.{Had, Waits, Refused}
use Rattle.session_steps.specs.declared.point.Point.{Point}
use Rattle.machine_model.specs.Go.{Scene, Run, go}
use Rattle.machine_model.specs.declared.reply.Reply.{Reply}
use Rattle.machine_model.specs.declared.reply.Reply.TheVariants as reply
use Rattle.machine_model.specs.Sound.{UnderLocks, HoldsAll, Backed}
use Rattle.session_steps.specs.State.{Own, session_of, SameOthers}

-- where a session stands: the store, the lock table and what is kept of it beside them
pub record Standing : Type 0 where
  pub layers : Layers
  pub locks : Locks
  pub own : Own

abbrev pub session_in : ℕ → Standing → Session
session_in i x = session_of x.layers x.locks i x.own

-- as the run of the session
abbrev pub run_in : ℕ → Standing → Run
run_in i x = record { session = session_in i x; rows = x.layers.committed; waits = x.locks.waits }

-- what is left of statements from a request of the first one on, where their session stands so with its block
abbrev pub tasks_from : Status → List Bound → ℕ → List Task
tasks_from x [] n = []
tasks_from x (st ∷ sts) n = asks (nowait (in_status x st)) (drop n (asked (in_status x st))) (Do (in_status x st) ∷ tasks_of (behind x st) sts)

-- the scene in which a session began to go, and the table now: the others hold what they held, the waits are the same in their order, and all sessions
-- are below the scene's count
pub record IsScene (e : Scene) (i : ℕ) (t : Locks) : Type 0 where
  pub others : (c : ℕ) (r : Resource) → c ≢ i → look_in t c r ≡ e.look c r
  pub waits : t.waits ≡ e.waits
  pub below : IsBelow e.count t
  pub known : i < e.count

-- the session goes on from there with the tasks left, as it would have gone from here
pub record GoesOnTo (i : ℕ) (x : Standing) (ts : List Task) (y : Standing) (us : List Task) : Type 0 where
  pub goes : (e : Scene) → IsScene e i x.locks → go e i (session_in i x) x.layers.committed ts ≡ go e i (session_in i y) y.layers.committed us
  pub others : SameOthers i x.layers y.layers x.locks y.locks
  pub waits : y.locks.waits ≡ x.locks.waits

-- the session stops there
pub record StopsIn (i : ℕ) (x : Standing) (ts : List Task) (y : Standing) : Type 0 where
  pub goes : (e : Scene) → IsScene e i x.locks → go e i (session_in i x) x.layers.committed ts ≡ run_in i y
  pub others : SameOthers i x.layers y.layers x.locks y.locks

-- ---- what a session does

-- it waits for a request, with these tasks left
abbrev pub waiting_in : ℕ → Standing → Resource → Mode → List Task → Standing
waiting_in i x r m ts = record {
  layers = x.layers;
  locks = queued x.locks i r m;
  own = record { status = x.own.status; rest = ts; transcript = x.own.transcript ++ Waiting ∷ [] };
}

abbrev pub told : Standing → Event → Standing
told x e = record { layers = x.layers; locks = x.locks; own = record { status = x.own.status; rest = x.own.rest; transcript = x.own.transcript ++ e ∷ [] } }

-- its writes are kept, and its locks go
abbrev pub committed : ℕ → Standing → Status → Standing
committed i x status = record {
  layers = kept i x.layers;
  locks = let_go x.locks i;
  own = record { status = status; rest = x.own.rest; transcript = x.own.transcript };
}

-- a fault ends its step
abbrev pub failed_in : ℕ → Standing → Fault → Standing
failed_in i x f = record {
  layers = undone i x.layers;
  locks = let_go x.locks i;
  own = record { status = after_fault x.own.status; rest = []; transcript = x.own.transcript ++ Failed f ∷ Done ∷ [] };
}

-- the session ends its step
abbrev pub finished_by_status : Status → ℕ → Standing → Standing
finished_by_status Outside i x = told (committed i x Outside) Done
finished_by_status (InBlock level) i x = told x Done
finished_by_status Broken i x = told x Done

abbrev pub finished_in : ℕ → Standing → Standing
finished_in i x = finished_by_status x.own.status i x

-- ---- blocks, by the state of a session

-- of a session that goes nothing is left to do later
abbrev pub standing : Layers → Locks → SessionState → Standing
standing l t s = record { layers = l; locks = t; own = record { status = s.status; rest = []; transcript = s.transcript } }

-- in a block that has failed none begins: such a statement fails
abbrev pub begun_by : Level → Status → List Event → SessionState
begun_by level (InBlock of) t = record { status = InBlock of; transcript = (t ++ Warned AlreadyInBlock ∷ []) ++ Began ∷ [] }
begun_by level Outside t = record { status = InBlock level; transcript = t ++ Began ∷ [] }
begun_by level Broken t = record { status = Broken; transcript = (t ++ Warned AlreadyInBlock ∷ []) ++ Began ∷ [] }

-- a block begins at this level, or goes on at its own with a warning
abbrev pub begun_in : Level → SessionState → SessionState
begun_in level s = begun_by level s.status s.transcript

abbrev pub ended_by : Status → List Event → Event → SessionState
ended_by Outside t e = record { status = Outside; transcript = (t ++ Warned NoBlock ∷ []) ++ e ∷ [] }
ended_by (InBlock level) t e = record { status = Outside; transcript = t ++ e ∷ [] }
ended_by Broken t e = record { status = Outside; transcript = t ++ e ∷ [] }

-- a block ends so; without a block there is a warning
abbrev pub block_ended : SessionState → Event → SessionState
block_ended s e = ended_by s.status s.transcript e

abbrev pub state_of : Standing → SessionState
state_of x = record { status = x.own.status; transcript = x.own.transcript }

-- a block begins, or goes on: its status and what it is told, no more
abbrev pub begins_in : Level → Standing → Standing
begins_in level x = standing x.layers x.locks (begun_in level (state_of x))

-- a block ends: its status and what it is told, no more; what it wrote and holds is kept or dropped beside it
abbrev pub ends_block_in : Standing → Event → Standing
ends_block_in x e = standing x.layers x.locks (block_ended (state_of x) e)

abbrev pub rolls_back_in : ℕ → Standing → Standing
rolls_back_in i x = standing (undone i x.layers) (let_go x.locks i) (block_ended (state_of x) RolledBack)

abbrev pub commits_by : Status → ℕ → Standing → Standing
commits_by Outside i x = standing (kept i x.layers) (let_go x.locks i) (block_ended (state_of x) Committed)
commits_by (InBlock level) i x = standing (kept i x.layers) (let_go x.locks i) (block_ended (state_of x) Committed)
commits_by Broken i x = rolls_back_in i x

-- a block that has failed is rolled back
abbrev pub commits_in : ℕ → Standing → Standing
commits_in i x = commits_by x.own.status i x

-- whether the session waits now; nobody else begins to wait or stops
pub record WaitsIf (i : ℕ) (t u : Locks) (waits : Bool) : Type 0 where
  pub own : waits_now u.waits i ≡ waits
  pub others : (c : ℕ) → c ≢ i → waits_now u.waits c ≡ waits_now t.waits c

-- ---- what the calls for one statement promise

-- the statement goes, and leaves the session there
pub record DoesTo (i : ℕ) (x : Standing) (st : Bound) (y : Standing) : Type 0 where
  pub goes : perform (session_in i x) x.layers.committed st ≡ Goes (session_in i y) y.layers.committed
  pub others : SameOthers i x.layers y.layers x.locks y.locks
  pub waits : y.locks.waits ≡ x.locks.waits

-- the statement fails, and nothing is changed
pub record FailsBy (i : ℕ) (x : Standing) (st : Bound) (f : Fault) (y : Standing) : Type 0 where
  pub fails : perform (session_in i x) x.layers.committed st ≡ Fails f
  pub same : y ≡ x

-- the statement, whose requests are had, leaves the session there, or it fails
abbrev pub Does : ℕ → Standing → Bound → Standing → Option Fault → Type 0
Does i x st y None = DoesTo i x st y
Does i x st y (Some f) = FailsBy i x st f y

-- ---- what the call for one request promises

-- what a request gets, by the rules of the lock table: one that refuses to wait is had or unavailable, whether or not its wait would close a ring
abbrev pub IsReply : Locks → ℕ → Resource → Mode → Bool → Reply → Type 0
IsReply l i r m nowait reply.Had = MayHave l i r m
IsReply l i r m nowait reply.Waits = (nowait ≡ false) × IsAnswer l i r m answer.Waits
IsReply l i r m true (reply.Refused f) = (f ≡ Unavailable) × (¬ (MayHave l i r m))
IsReply l i r m false (reply.Refused f) = (f ≡ Deadlock) × IsAnswer l i r m answer.Ring

-- the table after that reply
abbrev pub after_reply : Locks → ℕ → Resource → Mode → Reply → Locks
after_reply l i r m reply.Had = taken l i r m
after_reply l i r m reply.Waits = queued l i r m
after_reply l i r m (reply.Refused f) = l

-- the request with this number of the statement's lock plan gets this reply
pub record Replied (i : ℕ) (t : Locks) (st : Bound) (n : ℕ) (u : Locks) (reply : Reply) : Type 0 where
  pub request : Request
  pub here : slice_get (plan st) n ≡ Some request
  pub gets : IsReply t i request.resource request.mode (nowait st) reply
  pub changed : u ≡ after_reply t i request.resource request.mode reply

-- or there is no such request, and nothing is changed
abbrev pub AsksOne : ℕ → Locks → Bound → ℕ → Locks → Option Reply → Type 0
AsksOne i t st n u None = (slice_get (plan st) n ≡ None) × (u ≡ t)
AsksOne i t st n u (Some reply) = Replied i t st n u reply

-- ---- what the call for the requests of a statement promises; the statement is at the level of its transaction

-- the session holds the requests that it has had, and is to ask the others of the statement from this one on
pub record IsToAsk (i : ℕ) (t : Locks) (st : Bound) (n : ℕ) : Type 0 where
  pub idle : waits_now t.waits i ≡ false
  pub have : List Request
  pub holds : HoldsAll (slice i t.held) have
  pub backed : Backed have (asks (nowait st) (drop n (asked st)) (Do st ∷ []))

-- where it stands that waits for the request with this number, before tasks that come behind the statement's
abbrev pub waits_at : Layers → Locks → SessionState → Bound → ℕ → List Task → Standing
waits_at l t s st n ts = record {
  layers = l;
  locks = t;
  own = record { status = s.status; rest = asks (nowait st) (drop (n + 1) (asked st)) ts; transcript = s.transcript ++ Waiting ∷ [] };
}

-- all requests from that number on are had, or one waits, or is refused
abbrev pub Asks : ℕ → Locks → SessionState → Bound → ℕ → Locks → Asked → Type 0
Asks i t s st n u Had = (l : Layers) (ts : List Task) → GoesOnTo i (standing l t s) (asks (nowait st) (drop n (asked st)) ts) (standing l u s) ts
Asks i t s st n u (Waits k) = (l : Layers) (ts : List Task) → StopsIn i (standing l t s) (asks (nowait st) (drop n (asked st)) ts) (waits_at l u s st k ts)
Asks i t s st n u (Refused f) = (l : Layers) (ts : List Task) → StopsIn i (standing l t s) (asks (nowait st) (drop n (asked st)) ts) (failed_in i (standing l u s) f)

-- a request that waits has a number below 255, and its session waits now; nobody else begins to wait or stops
abbrev pub Queues : ℕ → Locks → Locks → Asked → Type 0
Queues i t u Had = u.waits ≡ t.waits
Queues i t u (Waits k) = (k < 255) × WaitsIf i t u true
Queues i t u (Refused f) = u.waits ≡ t.waits

-- then it holds all that the statement asks for
abbrev pub HasAll : ℕ → Locks → Bound → Asked → Type 0
HasAll i u st Had = HoldsAll (slice i u.held) (asked st)
HasAll i u st (Waits k) = Unit {0}
HasAll i u st (Refused f) = Unit {0}

-- what asking for the requests of a statement from this one on came to
pub record HasAsked (i : ℕ) (t : Locks) (s : SessionState) (st : Bound) (n : ℕ) (u : Locks) (asked : Asked) : Type 0 where
  pub asks : Asks i t s st n u asked
  pub queues : Queues i t u asked
  pub holds : HasAll i u st asked

-- ---- what the call for a step promises

-- the session is to go on with statements from a request of one of them
pub record IsToGo (i : ℕ) (l : Layers) (t : Locks) (x : Status) (sts : List Bound) (k n : ℕ) : Type 0 where
  pub idle : waits_now t.waits i ≡ false
  pub under : (c : ℕ) → c ≢ i → UnderLocks (overlay_of c l) (slice c t.held)
  pub have : List Request
  pub holds : HoldsAll (slice i t.held) have
  pub backed : Backed have (tasks_from x (drop k sts) n)

-- where it stands that is to go on from a request of one of the statements
abbrev pub paused : Layers → Locks → SessionState → List Bound → Point → Standing
paused l t s sts p = record {
  layers = l;
  locks = t;
  own = record { status = s.status; rest = tasks_from s.status (drop p.statement sts) p.request; transcript = s.transcript };
}

-- the step ends there, or a request of it waits, behind which it is to go on
abbrev pub GoesUntil : ℕ → Standing → List Bound → Point → Layers → Locks → SessionState → Option Point → Type 0
GoesUntil i x sts from m u s None = StopsIn i x (tasks_from x.own.status (drop from.statement sts) from.request) (standing m u s)
GoesUntil i x sts from m u s (Some p) = StopsIn i x (tasks_from x.own.status (drop from.statement sts) from.request) (paused m u s sts p)
