-- What is told of a session that went.
use Rattle.std.proofs.Common.{◌≡◌, refl, sym, ap, ◌∙◌, subst, Bool, true, false, ◌&&◌, ◌==◌, List, [], ◌∷◌, ◌++◌, length, ℕ, suc, ◌<◌, Option, Some, None, drop}
use Rattle.lock_queues.specs.Laws.{IsBelow}
use Rattle.lock_queues.specs.Locks.{Spot}
use Rattle.lock_queues.specs.LockTable.{Locks, look_in, grant}
use Rattle.lock_queues.specs.Rules.{IsNext, wait_of}
use Rattle.lock_queues.specs.declared.reason.Edge.{Edge}
use Rattle.lock_queues.specs.declared.wait.Wait.{Wait}
use Rattle.lock_queues.specs.Reasons.{same_reason, same_edges, want_of}
use Rattle.lock_queues.specs.Sound.{EachWait}
use Rattle.bound_specs.specs.Spec.{Step}
use Rattle.bound_statements.specs.declared.statement.Bound.{Bound}
use Rattle.events.specs.declared.event.Event.{Event}
use Rattle.events.specs.declared.event.Event.TheVariants.{Resumed}
use Rattle.line_moments.specs.Moments.{ending_by, last_sent}
use Rattle.line_moments.specs.declared.moment.Change.{Change}
use Rattle.line_moments.specs.declared.moment.Manner.{Manner}
use Rattle.line_moments.specs.declared.moment.Manner.TheVariants.{IsResumed}
use Rattle.line_moments.specs.declared.moment.Moment.{Moment}
use Rattle.line_moments.specs.declared.moment.Still.{Still}
use Rattle.line_moments.specs.declared.stale.Stale.{Stale}
use Rattle.session_steps.specs.declared.point.Rest.{Rest}
use Rattle.session_steps.specs.Stage.{Staged}
use Rattle.session_steps.specs.declared.point.Point.{Point}
use Rattle.session_machine.specs.declared.trace.Trace.{Trace}
use Rattle.session_steps.specs.Going.{Standing, standing, tasks_from}
use Rattle.session_machine.specs.Tracing.{Traces}
use Rattle.session_machine.specs.Telling.{still_told, stale_told, told_since, moment_told, had_of, IsTold, IsResumedSo}
use Rattle.session_steps.specs.Stage.{statements_of, member_at, IsStage}
use Rattle.session_steps.proofs.Stages.{session-known}
use Rattle.session_steps.proofs.States.{same-taken}
use Rattle.session_machine.proofs.Tracing.{below-still}

never : (p q : Bool) → false ≡ (p && q && false)
never true true = refl
never true false = refl
never false true = refl
never false false = refl

-- lists of edges that differ in length are not the same
pub lengths-differ : (es fs : List Edge) → (length es ≡ length fs → ⊥) → false ≡ same_edges es fs
lengths-differ [] [] h = absurd (h refl)
lengths-differ [] (f ∷ fs) h = refl
lengths-differ (e ∷ es) [] h = refl
lengths-differ (e ∷ es) (f ∷ fs) h =
    never (e.session == f.session) (same_reason e.reason f.reason)
    ∙ ap (λ b. (e.session == f.session) && same_reason e.reason f.reason && b) (lengths-differ es fs (λ k. h (ap suc k)))

-- the same trace, by equal parts
pub traces-at : (m n i : ℕ) (cs ds : List Change) (x y : Standing) (sts uts : List Bound) (p q : Point) (trace : Trace) → m ≡ n → cs ≡ ds → x ≡ y → sts ≡ uts
    → p ≡ q
    → Traces m i cs x (tasks_from x.own.status (drop p.statement sts) p.request) trace
    → Traces n i ds y (tasks_from y.own.status (drop q.statement uts) q.request) trace
traces-at m n i cs ds x y sts uts p q trace e f g h k traces =
    subst (λ c. Traces c i ds y (tasks_from y.own.status (drop q.statement uts) q.request) trace) e
    (subst (λ c. Traces m i c y (tasks_from y.own.status (drop q.statement uts) q.request) trace) f
    (subst (λ (c : Standing). Traces m i cs c (tasks_from c.own.status (drop q.statement uts) q.request) trace) g
    (subst (λ c. Traces m i cs x (tasks_from x.own.status (drop q.statement c) q.request) trace) h
    (subst (λ (c : Point). Traces m i cs x (tasks_from x.own.status (drop c.statement sts) c.request) trace) k traces))))

-- a moment that tells this is the one that is told
pub told-is : (steps : List Step) (m n : ℕ) (x y : Staged) (i : ℕ) (manner : Manner) (step : Option ℕ) (trace : Trace) (es : List Event) (ss : List Still) (rs : List Stale)
    (moment : Moment) → m ≡ n → es ≡ told_since i x y → ss ≡ still_told m m i x.locks y.locks → rs ≡ stale_told steps m i x y
    → moment ≡ record {
      session = i;
      manner = manner;
      step = step;
      events = es;
      changes = trace.changes;
      status = (member_at y i).state.status;
      ending = ending_by (want_of m (look_in y.locks) y.locks.waits i) trace.refusal;
      still = ss;
      stale = rs;
    }
    → moment ≡ moment_told steps n x y i manner step trace
told-is steps m n x y i manner step trace es ss rs moment e f g h is = is ∙ (λ k. record {
  session = i;
  manner = manner;
  step = step;
  events = f k;
  changes = trace.changes;
  status = (member_at y i).state.status;
  ending = ending_by (want_of (e k) (look_in y.locks) y.locks.waits i) trace.refusal;
  still = (g ∙ ap (λ c. still_told c c i x.locks y.locks) e) k;
  stale = (h ∙ ap (λ c. stale_told steps c i x y) e) k;
})

-- of the session whose wait was granted
pub resumed-so : (count : ℕ) (steps : List Step) (x y : Staged) (s : Spot) (m : Moment) (i : ℕ) (rest : Rest) → s.wait.session ≡ i
    → (member_at x i).rest ≡ Some rest
    → IsTold steps count x y i IsResumed (last_sent None (member_at x i).state.transcript) (had_of (wait_of x.locks i))
    (standing x.store (grant x.locks s) (record { status = (member_at x i).state.status; transcript = Resumed ∷ [] }))
    (tasks_from (member_at x i).state.status (drop rest.point.statement (statements_of steps rest.step)) rest.point.request) m
    → IsResumedSo count steps x y s m
resumed-so count steps x y s m i rest same =
    subst (λ j. (member_at x j).rest ≡ Some rest
    → IsTold steps count x y j IsResumed (last_sent None (member_at x j).state.transcript) (had_of (wait_of x.locks j))
    (standing x.store (grant x.locks s) (record { status = (member_at x j).state.status; transcript = Resumed ∷ [] }))
    (tasks_from (member_at x j).state.status (drop rest.point.statement (statements_of steps rest.step)) rest.point.request) m
    → IsResumedSo count steps x y s m) same (λ there told. record { rest = rest; there = there; told = told })

-- a wait that is granted leaves all below the count
pub granted-below : (steps : List Step) (x : Staged) (s : Spot) → IsStage steps x → IsNext x.locks s → IsBelow (length x.members) (grant x.locks s)
granted-below steps x s stage next =
    let n = length x.members in
    let i = s.wait.session in
    let t1 : Locks = record { held = x.locks.held; waits = s.before ++ s.after } in
    let waiters = subst (EachWait (λ w. w.session < n)) (sym next.there) stage.within.below.waiters in
    let below : IsBelow n t1 = record { holders = stage.within.below.holders; waiters = left-out n s.before s.wait s.after waiters } in
    below-still n i x.store x.store t1 (grant x.locks s) below (session-known steps x s stage next) (same-taken x.store t1 i s.wait.resource s.wait.mode) refl
  where
    left-out : (n : ℕ) (us : List Wait) (v : Wait) (vs : List Wait) → EachWait (λ w. w.session < n) (us ++ v ∷ vs) → EachWait (λ w. w.session < n) (us ++ vs)
    left-out n [] v vs p = p.1
    left-out n (u ∷ us) v vs p = (p.0, left-out n us v vs p.1)
