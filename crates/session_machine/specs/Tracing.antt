-- What a session comes to while it goes: the locks that it gets and lets go, and why it is refused a request, if it is.
use Rattle.std.specs.Prelude.{◌≡◌, ℕ, true, false, Bool, List, [], ◌∷◌, ◌++◌, drop, Option, Some, None}
use Rattle.lock_modes.specs.Rows.{Rows'}
use Rattle.lock_modes.specs.declared.mode.Mode.{Mode}
use Rattle.lock_modes.specs.declared.resource.Resource.{Resource}
use Rattle.lock_queues.specs.Laws.{IsBelow}
use Rattle.lock_queues.specs.LockTable.{Locks, look_in, queued, slice}
use Rattle.lock_queues.specs.Reasons.{want_at, last_spot}
use Rattle.lock_queues.specs.Rings.{ring_told}
use Rattle.row_tables.specs.Layers.{Layers}
use Rattle.bound_statements.specs.Levels.{asked}
use Rattle.bound_statements.specs.Plan.{nowait}
use Rattle.bound_statements.specs.declared.statement.Bound.{Bound}
use Rattle.machine_model.specs.Go.{Scene}
use Rattle.machine_model.specs.Session.{Session, Task, asks}
use Rattle.machine_model.specs.Sound.{HoldsAll}
use Rattle.line_moments.specs.Moments.{go_changes, go_refusal}
use Rattle.line_moments.specs.declared.moment.Change.{Change}
use Rattle.line_moments.specs.declared.moment.Change.TheVariants.{Had}
use Rattle.line_moments.specs.declared.moment.Refusal.{Refusal}
use Rattle.line_moments.specs.declared.moment.Refusal.TheVariants.{Closes, Wants}
use Rattle.session_steps.specs.State.{SessionState}
use Rattle.session_machine.specs.declared.trace.Trace.{Trace}
use Rattle.session_machine.specs.declared.trace.Course.{Course}
use Rattle.session_machine.specs.declared.trace.Course.TheVariants.{AllHad, Stops}
use Rattle.session_steps.specs.Going.{Standing, standing, session_in, IsScene, GoesOnTo}

-- what the tasks come to
abbrev pub trace_of : Scene → ℕ → Session → Rows' → List Task → Trace
trace_of e i s rows ts = record { changes = go_changes e i s rows ts; refusal = go_refusal e i s rows ts }

-- behind these changes
abbrev pub behind : List Change → Trace → Trace
behind cs t = record { changes = cs ++ t.changes; refusal = t.refusal }

-- the same, of a session that stands there
abbrev pub trace_in : Scene → ℕ → List Change → Standing → List Task → Trace
trace_in e i cs x ts = behind cs (trace_of e i (session_in i x) x.layers.committed ts)

-- a scene of so many sessions, in which the session began to go
pub record IsSceneOf (count : ℕ) (e : Scene) (i : ℕ) (t : Locks) : Type 0 where
  pub scene : IsScene e i t
  pub many : e.count ≡ count

-- the tasks left there, behind these changes, come to this
abbrev pub Traces : ℕ → ℕ → List Change → Standing → List Task → Trace → Type 0
Traces count i cs x ts trace = (e : Scene) → IsSceneOf count e i x.locks → trace_in e i cs x ts ≡ trace

-- the tasks left there, behind these changes, come to what those come to that are left here, behind these
abbrev pub TracesOn : ℕ → ℕ → List Change → Standing → List Task → List Change → Standing → List Task → Type 0
TracesOn count i cs x ts ds y us = (e : Scene) → IsSceneOf count e i x.locks → trace_in e i cs x ts ≡ trace_in e i ds y us

-- ---- one request

-- what is held there is had
abbrev pub had_by : Resource → Option Mode → List Change
had_by r None = []
had_by r (Some m) = Had r m ∷ []

-- why the request is refused: where it refuses to wait, what its wait would want; where it does not, the ring that its wait would close
abbrev pub refusal_at : ℕ → Locks → ℕ → Bool → Resource → Mode → Refusal
refusal_at count t i true r m = Wants (want_at count (look_in t) (last_spot t.waits i r m))
refusal_at count t i false r m = Closes (ring_told count (look_in t) (queued t i r m).waits i)

-- ---- what the call for the requests of a statement promises; the statement is at the level of its transaction

-- all are had: the session goes on with the tasks behind them
pub record AreHad (count i : ℕ) (t : Locks) (s : SessionState) (st : Bound) (n : ℕ) (u : Locks) (cs : List Change) (trace : Trace) : Type 0 where
  pub goes : (l : Layers) (ts : List Task) → GoesOnTo i (standing l t s) (asks (nowait st) (drop n (asked st)) ts) (standing l u s) ts
  pub traces : (l : Layers) (ts : List Task)
      → TracesOn count i cs (standing l t s) (asks (nowait st) (drop n (asked st)) ts) trace.changes (standing l u s) ts
  pub holds : HoldsAll (slice i u.held) (asked st)
  pub below : IsBelow count u
  pub whole : trace.refusal ≡ None

-- or the session stops at one that waits or is refused
abbrev pub TracesAsking : ℕ → ℕ → Locks → SessionState → Bound → ℕ → Locks → List Change → Trace → Course → Type 0
TracesAsking count i t s st n u cs trace AllHad = AreHad count i t s st n u cs trace
TracesAsking count i t s st n u cs trace Stops =
    (l : Layers) (ts : List Task) → Traces count i cs (standing l t s) (asks (nowait st) (drop n (asked st)) ts) trace
