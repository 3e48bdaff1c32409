-- What is told of a session that went from one stage to the other.
use Rattle.std.specs.Prelude.{◌≡◌, ℕ, zero, suc, ◌==◌, cond, List, [], ◌∷◌, ◌++◌, drop, length, Option, Some, None, map}
use Rattle.lock_modes.specs.declared.mode.Mode.{Mode}
use Rattle.lock_modes.specs.declared.resource.Resource.{Resource}
use Rattle.lock_queues.specs.Locks.{Spot}
use Rattle.lock_queues.specs.LockTable.{Locks, look_in, grant}
use Rattle.lock_queues.specs.Rules.{wait_of}
use Rattle.lock_queues.specs.Reasons.{want_of}
use Rattle.lock_queues.specs.declared.reason.Edge.{Edge}
use Rattle.events.specs.declared.event.Event.{Event}
use Rattle.events.specs.declared.event.Event.TheVariants.{Sent, Resumed}
use Rattle.bound_specs.specs.Spec.{Step}
use Rattle.machine_model.specs.Session.{Task}
use Rattle.machine_model.specs.World.{World, left_to_do}
use Rattle.line_moments.specs.Moments.{changed_edges, sent_step, last_sent, ending_by, Cause, moment_of, settle_goings}
use Rattle.line_moments.specs.declared.moment.Change.{Change}
use Rattle.line_moments.specs.declared.moment.Change.TheVariants.{Had}
use Rattle.line_moments.specs.declared.moment.Manner.{Manner}
use Rattle.line_moments.specs.declared.moment.Manner.TheVariants.{IsResumed}
use Rattle.line_moments.specs.declared.moment.Moment.{Moment}
use Rattle.line_moments.specs.declared.moment.Still.{Still}
use Rattle.line_moments.specs.declared.stale.Stale.{Stale}
use Rattle.line_moments.specs.Reads.{open_reads}
use Rattle.line_moments.specs.Stale.{stale_of}
use Rattle.row_tables.specs.Layers.{sight}
use Rattle.session_steps.specs.Stage.{Staged}
use Rattle.session_machine.specs.declared.trace.Trace.{Trace}
use Rattle.session_steps.specs.declared.point.Rest.{Rest}
use Rattle.session_steps.specs.Going.{Standing, standing, tasks_from}
use Rattle.session_machine.specs.Tracing.{Traces}
use Rattle.session_steps.specs.Stage.{statements_of, world_in, member_at}

-- what is had where this wait is granted
abbrev pub had_of : Option (Resource × Mode) → List Change
had_of None = []
had_of (Some p) = Had p.0 p.1 ∷ []

-- whom the session waits for
abbrev pub edges_told : ℕ → Locks → ℕ → List Edge
edges_told count t c = elim (want_of count (look_in t) t.waits c) [ None ↦ [] | Some want ↦ want.edges ]

-- of the sessions below the number but i, those that wait for other reasons than before
abbrev pub still_told : ℕ → ℕ → ℕ → Locks → Locks → List Still
still_told zero count i t u = []
still_told (suc n) count i t u = still_told n count i t u ++ cond (n == i) [] (changed_edges n (edges_told count t n) (edges_told count u n))

-- of a session's open reads, those that are stale and were not before
abbrev pub stale_since : List Step → ℕ → Staged → Staged → List Stale
stale_since steps c x y = stale_of steps c (sight c x.store) (sight c y.store) (open_reads (member_at x c).state.status (member_at x c).state.transcript)

-- of the sessions below the number but i
abbrev pub stale_told : List Step → ℕ → ℕ → Staged → Staged → List Stale
stale_told steps zero i x y = []
stale_told steps (suc n) i x y = stale_told steps n i x y ++ cond (n == i) [] (stale_since steps n x y)

-- the step that was sent last, behind this event
abbrev pub sent_last : Option ℕ → Event → Option ℕ
sent_last k e = elim (sent_step e) [ None ↦ k | Some n ↦ Some n ]

-- what the session was told since
abbrev pub told_since : ℕ → Staged → Staged → List Event
told_since i x y = drop (length (member_at x i).state.transcript) (member_at y i).state.transcript

-- the moment of a session that came to this
abbrev pub moment_told : List Step → ℕ → Staged → Staged → ℕ → Manner → Option ℕ → Trace → Moment
moment_told steps count x y i manner step trace = record {
  session = i;
  manner = manner;
  step = step;
  events = told_since i x y;
  changes = trace.changes;
  status = (member_at y i).state.status;
  ending = ending_by (want_of count (look_in y.locks) y.locks.waits i) trace.refusal;
  still = still_told count count i x.locks y.locks;
  stale = stale_told steps count i x y;
}

-- a session that went nowhere comes to nothing
abbrev pub no_trace : Trace
no_trace = record { changes = []; refusal = None }

-- what the moment tells is what the tasks come to, behind these changes, of a session that stood there
pub record IsTold (steps : List Step) (count : ℕ) (x y : Staged) (i : ℕ) (manner : Manner) (step : Option ℕ) (cs : List Change) (from : Standing) (ts : List Task) (m : Moment) : Type 0 where
  pub trace : Trace
  pub traces : Traces count i cs from ts trace
  pub is : m ≡ moment_told steps count x y i manner step trace

-- where a session stands that is sent a step, and was told of nothing else
abbrev pub sent_standing : Staged → ℕ → ℕ → Standing
sent_standing x i k = standing x.store x.locks (record { status = (member_at x i).state.status; transcript = Sent k ∷ [] })

-- where a session stands whose wait is granted, and was told of nothing else
abbrev pub resumed_standing : Staged → Spot → Standing
resumed_standing x s = standing x.store (grant x.locks s) (record { status = (member_at x s.wait.session).state.status; transcript = Resumed ∷ [] })

-- the moment of the session whose wait was granted
pub record IsResumedSo (count : ℕ) (steps : List Step) (x y : Staged) (s : Spot) (m : Moment) : Type 0 where
  pub rest : Rest
  pub there : (member_at x s.wait.session).rest ≡ Some rest
  pub told : IsTold steps count x y s.wait.session IsResumed (last_sent None (member_at x s.wait.session).state.transcript) (had_of (wait_of x.locks s.wait.session))
      (resumed_standing x s) (tasks_from (member_at x s.wait.session).state.status (drop rest.point.statement (statements_of steps rest.step)) rest.point.request) m

-- the moment of a going from the world of the stage
abbrev pub moment_in : List Step → Staged → Cause → Moment
moment_in steps x cause = moment_of steps (record { world = world_in steps x; cause = cause })

-- the moments of a world that settles
abbrev pub settling : List Step → World → List Moment
settling steps w = map (moment_of steps) (settle_goings (left_to_do w) w)
