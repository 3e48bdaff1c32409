-- The world that a store, a lock table and the sessions kept beside them stand for, and what holds of them.
use Rattle.std.specs.Prelude.{◌≡◌, ℕ, suc, ◌<◌, ◌≤◌, Bool, false, List, [], ◌∷◌, ◌++◌, length, map, set, get_or, drop, All, replicate, Option, Some, None, is_some}
use Rattle.finite_maps.specs.Map.{empty}
use Rattle.lock_queues.specs.Locks.{Spot, next_grant, waits_now}
use Rattle.lock_queues.specs.Rules.{IsNext}
use Rattle.lock_queues.specs.LockTable.{Locks, no_locks}
use Rattle.lock_queues.specs.Laws.{IsBelow}
use Rattle.row_tables.specs.Layers.{Layers, overlay_of, no_rows}
use Rattle.machine_model.specs.Outcome.{TellsOwn}
use Rattle.events.specs.declared.event.Event.{Event}
use Rattle.events.specs.declared.event.Event.TheVariants.{Sent}
use Rattle.bound_statements.specs.declared.statement.Bound.{Bound}
use Rattle.bound_specs.specs.Spec.{Spec, Step, no_step}
use Rattle.machine_model.specs.declared.status.Status.{Status}
use Rattle.machine_model.specs.declared.status.Status.TheVariants.{Outside}
use Rattle.session_steps.specs.declared.point.Origin.{Origin}
use Rattle.session_steps.specs.declared.point.Origin.TheVariants.{Step as StepOf}
use Rattle.session_steps.specs.declared.point.Point.{Point}
use Rattle.session_steps.specs.declared.point.Rest.{Rest}
use Rattle.machine_model.specs.Session.{Task, note, tasks_of}
use Rattle.session_steps.specs.State.{Own, SessionState, world_of}
use Rattle.session_steps.specs.Going.{Standing, standing, tasks_from, StopsIn, WaitsIf}
use Rattle.machine_model.specs.World.{World, session_at, look_of, goes, granted, settle, left_to_do}
use Rattle.machine_model.specs.Sound.{Steady}

-- a session of a world, with what is left of its step while it waits
pub record Member : Type 0 where
  pub state : SessionState
  pub rest : Option Rest

-- the rows, the locks and the sessions of a world
pub record Staged : Type 0 where
  pub store : Layers
  pub locks : Locks
  pub members : List Member

abbrev pub no_member : Member
no_member = record { state = record { status = Outside; transcript = [] }; rest = None }

abbrev pub statements_of : List Step → ℕ → List Bound
statements_of steps k = (get_or steps k no_step).statements

-- the tasks that are left of a step
abbrev pub rest_of : List Step → Status → Option Rest → List Task
rest_of steps x None = []
rest_of steps x (Some r) = tasks_from x (drop r.point.statement (statements_of steps r.step)) r.point.request

abbrev pub own_of : List Step → Member → Own
own_of steps m = record { status = m.state.status; rest = rest_of steps m.state.status m.rest; transcript = m.state.transcript }

-- the world of a stage on which these steps are sent
abbrev pub world_in : List Step → Staged → World
world_in steps s = world_of s.store s.locks (map (own_of steps) s.members)

abbrev pub member_at : Staged → ℕ → Member
member_at s i = get_or s.members i no_member

-- the session's part of the stage
abbrev pub part_of : List Step → Staged → ℕ → Standing
part_of steps s i = record { layers = s.store; locks = s.locks; own = own_of steps (member_at s i) }

-- no session past these has an overlay or a lock, or waits
pub record IsWithin (n : ℕ) (l : Layers) (t : Locks) : Type 0 where
  pub overlays : (c : ℕ) → n ≤ c → overlay_of c l ≡ empty
  pub below : IsBelow n t

-- where the session stands while it goes
abbrev pub standing_at : ℕ → Staged → Standing
standing_at i s = standing s.store s.locks (member_at s i).state

-- the other sessions, and what is left of this one's step
abbrev pub others : ℕ → Staged → List Member
others i s = set s.members i (record { state = no_member.state; rest = (member_at s i).rest })

-- this is left of the session's step
abbrev pub with_rest : ℕ → Option Rest → Staged → Staged
with_rest i r s = record s { members = set s.members i (record { state = (member_at s i).state; rest = r }) }

-- what is left is of a step of the spec
abbrev pub RestIsOf : ℕ → Member → Type 0
RestIsOf count m = (r : Rest) → m.rest ≡ Some r → r.step < count

-- what holds of a stage, also while waits are ripe
pub record IsStage (steps : List Step) (s : Staged) : Type 0 where
  pub within : IsWithin (length s.members) s.store s.locks
  pub steady : Steady (world_in steps s)
  pub resting : (c : ℕ) → c < length s.members → is_some (member_at s c).rest ≡ waits_now s.locks.waits c
  pub known : All (RestIsOf (length steps)) s.members

-- what holds of a stage between the steps
pub record IsSettled (sessions : ℕ) (steps : List Step) (s : Staged) : Type 0 where
  pub count : length s.members ≡ suc sessions
  pub stage : IsStage steps s
  pub unripe : next_grant (length (world_in steps s).sessions) (look_of (world_in steps s)) (world_in steps s).waits ≡ None
  pub own : TellsOwn steps (world_in steps s)

-- a stage whose step was refused memory may have broken off anywhere
abbrev pub IsSettledUnless : Bool → ℕ → List Step → Staged → Type 0
IsSettledUnless spent sessions steps s = spent ≡ false → IsSettled sessions steps s

abbrev pub transcripts_of : List Member → List (List Event)
transcripts_of members = map (λ (m : Member). m.state.transcript) members

-- the session was told of nothing
abbrev pub IsSilent : Member → Type 0
IsSilent m = m.state.transcript ≡ []

-- ---- what the calls on a stage promise

abbrev pub note_member : Member → Event → Member
note_member m e = record { state = record { status = m.state.status; transcript = m.state.transcript ++ e ∷ [] }; rest = m.rest }

-- a session is told of an event
pub record HasTold (i : ℕ) (e : Event) (x y : Staged) : Type 0 where
  pub store : y.store ≡ x.store
  pub locks : y.locks ≡ x.locks
  pub members : y.members ≡ set x.members i (note_member (member_at x i) e)

-- what is left of a step that stopped there
abbrev pub rest_at : ℕ → Option Point → Option Rest
rest_at k None = None
rest_at k (Some p) = Some (record { step = k; point = p })

-- nothing is stored and nothing locked, and the sessions have done nothing
pub record IsBlank (count : ℕ) (s : Staged) : Type 0 where
  pub store : s.store ≡ no_rows
  pub locks : s.locks ≡ no_locks
  pub members : s.members ≡ replicate count no_member

-- the session has gone on with tasks until they end or a request waits, and the others are as they were
pub record HasGone (steps : List Step) (i : ℕ) (ts : List Task) (x y : Staged) : Type 0 where
  pub members : y.members ≡ set x.members i (member_at y i)
  pub stops : StopsIn i (standing x.store x.locks (member_at x i).state) ts (part_of steps y i)
  pub waits : WaitsIf i x.locks y.locks (is_some (member_at y i).rest)
  pub known : RestIsOf (length steps) (member_at y i)

-- the step is sent to its session, which has gone
pub record HasStarted (steps : List Step) (k : ℕ) (x y : Staged) : Type 0 where
  pub world : world_in steps y
      ≡ goes (world_in steps x) (get_or steps k no_step).session (note (session_at (world_in steps x) (get_or steps k no_step).session) (Sent k))
      (tasks_of (session_at (world_in steps x) (get_or steps k no_step).session).status (statements_of steps k))
  pub stage : IsStage steps y
  pub count : length y.members ≡ length x.members

-- the first ripe wait is granted and its session has gone on: the world settles to the same, and less is left to do
pub record HasResumed (steps : List Step) (x y : Staged) : Type 0 where
  pub grants : (s : Spot) → IsNext x.locks s → world_in steps y ≡ granted (world_in steps x) s
  pub settles : settle (world_in steps x) ≡ settle (world_in steps y)
  pub less : left_to_do (world_in steps y) < left_to_do (world_in steps x)
  pub stage : IsStage steps y
  pub count : length y.members ≡ length x.members

-- each of the statements may be asked for by its place among them
abbrev pub KnowsAll : (ℕ → Bound → Type 0) → List Bound → Type 0
KnowsAll knows sts = (k : ℕ) (d : Bound) → k < length sts → knows k (get_or sts k d)

-- and those of each step
abbrev pub KnowsSteps : (Origin → ℕ → Bound → Type 0) → List Step → Type 0
KnowsSteps knows steps = (k : ℕ) → k < length steps → KnowsAll (knows (StepOf k)) (statements_of steps k)

-- and those of each setup
pub record KnowsSetups (knows : ℕ → Bound → Type 0) (spec : Spec) : Type 0 where
  pub mains : All (KnowsAll knows) spec.setups
  pub own : All (KnowsAll knows) spec.session_setups
