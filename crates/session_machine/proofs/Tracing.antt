-- What each move of a session comes to in locks and refusals: a request, a statement, the end of a step.
use Rattle.std.specs.List.{slice_get}
use Rattle.std.proofs.Common.{Option, ◌≡◌, refl, sym, ap, ◌∙◌, subst, ℕ, ◌+◌, ◌<◌, Bool, true, false, List, [], ◌∷◌, ◌++◌, Some, None, drop, append_assoc, append-nil}
use Rattle.finite_maps.specs.Map.{get, empty, get-insert, same_key-refl}
use Rattle.lock_modes.specs.declared.mode.Mode.{Mode}
use Rattle.lock_modes.specs.declared.resource.Resource.{Resource}
use Rattle.lock_modes.specs.Rows.{Rows'}
use Rattle.lock_queues.specs.Laws.{IsBelow}
use Rattle.lock_queues.specs.Locks.{wanted, closes_ring}
use Rattle.lock_queues.specs.LockTable.{Locks, holding_order, look_in, taken, queued, slice}
use Rattle.lock_queues.specs.Reasons.{want_at, last_spot}
use Rattle.lock_queues.specs.Rings.{ring_told}
use Rattle.lock_queues.proofs.Slices.{get-slice}
use Rattle.bound_statements.specs.Levels.{is_unlocked, asked}
use Rattle.bound_statements.specs.Plan.{Request, plan, nowait}
use Rattle.bound_statements.specs.declared.statement.Bound.{Bound}
use Rattle.row_tables.specs.Layers.{Layers}
use Rattle.events.specs.declared.event.Fault.{Fault}
use Rattle.machine_model.specs.declared.status.Status.{Status}
use Rattle.machine_model.specs.declared.status.Status.TheVariants.{Outside}
use Rattle.machine_model.specs.declared.reply.Reply.{Reply}
use Rattle.machine_model.specs.declared.reply.Reply.TheVariants.{Had as IsHad, Waits, Refused}
use Rattle.machine_model.specs.Session.{Session, Task, Ask, Do, Performed, Goes, Fails, kind, asks, behind, in_status, tasks_of}
use Rattle.machine_model.proofs.Levels.{kind-in_status, nowait-in_status}
use Rattle.machine_model.specs.Go.{Scene, is_broken, replied, reply_in, taking, look_with, waiting_with}
use Rattle.line_moments.specs.Moments.{go_changes, go_refusal, let_go, did_changes, end_changes, refusal}
use Rattle.line_moments.specs.declared.moment.Change.{Change}
use Rattle.line_moments.specs.declared.moment.Change.TheVariants.{Had}
use Rattle.line_moments.specs.declared.moment.Refusal.TheVariants.{Closes, Wants}
use Rattle.session_machine.specs.declared.trace.Trace.{Trace}
use Rattle.session_steps.specs.State.{SameOthers}
use Rattle.session_steps.specs.Going.{Standing, session_in, tasks_from, IsScene, GoesOnTo, DoesTo, FailsBy, IsReply}
use Rattle.session_machine.specs.Tracing.{trace_in, IsSceneOf, Traces, TracesOn, had_by, refusal_at}
use Rattle.session_steps.proofs.Going.{look-now, ring-is, reply-is}
use Rattle.session_steps.proofs.Moves.{still-scene}
use Rattle.session_steps.proofs.States.{session-taken, same-taken}
use Rattle.session_steps.proofs.Requests.{asked-plan}
use Rattle.session_steps.proofs.Steps.{tasks_from-start, does-at, fails-at}

-- ---- moves in turn

module _ (count i : ℕ) where
  still-scene-of : (e : Scene) (l m : Layers) (t u : Locks) → SameOthers i l m t u → u.waits ≡ t.waits → IsSceneOf count e i t → IsSceneOf count e i u
  still-scene-of e l m t u same waits x = record { scene = still-scene e i l m t u same waits x.scene; many = x.many }

  pub traces-on-on : (cs ds es : List Change) (x y z : Standing) (ts us vs : List Task) → SameOthers i x.layers y.layers x.locks y.locks
      → y.locks.waits ≡ x.locks.waits
      → TracesOn count i cs x ts ds y us → TracesOn count i ds y us es z vs → TracesOn count i cs x ts es z vs
  traces-on-on cs ds es x y z ts us vs same waits p q = λ e scene. p e scene
      ∙ q e (still-scene-of e x.layers y.layers x.locks y.locks same waits scene)

  pub traces-on-stop : (cs ds : List Change) (x y : Standing) (ts us : List Task) (trace : Trace) → SameOthers i x.layers y.layers x.locks y.locks
      → y.locks.waits ≡ x.locks.waits
      → TracesOn count i cs x ts ds y us → Traces count i ds y us trace → Traces count i cs x ts trace
  traces-on-stop cs ds x y ts us trace same waits p q = λ e scene. p e scene
      ∙ q e (still-scene-of e x.layers y.layers x.locks y.locks same waits scene)

  -- the scene that a table is
  scene-here : (t : Locks) → IsBelow count t → i < count → IsScene (record { count = count; look = look_in t; waits = t.waits }) i t
  scene-here t below known = record { others = λ c r ne. refl; waits = refl; below = below; known = known }

  pub below-still : (l m : Layers) (t u : Locks) → IsBelow count t → i < count → SameOthers i l m t u → u.waits ≡ t.waits → IsBelow count u
  below-still l m t u below known same waits = (still-scene (record { count = count; look = look_in t; waits = t.waits }) i l m t u same waits
      (scene-here t below known)).below

  closes-so : (h c : Bool) (f : Fault) → replied h false c ≡ Refused f → c ≡ true
  closes-so true c f is = cc
  closes-so false true f is = refl
  closes-so false false f is = cc

  -- the wait of a request that is refused, though it would wait, would close a ring
  pub refused-closes : (t : Locks) (r : Resource) (m : Mode) (n : Bool) (f : Fault) → IsBelow count t → i < count → IsReply t i r m n (Refused f)
      → n ≡ false → closes_ring count (look_in t) (queued t i r m).waits i ≡ true
  refused-closes t r m n f below known is waits =
      let e : Scene = record { count = count; look = look_in t; waits = t.waits } in
      let s : Session = record { overlay = empty; held = slice i t.held; status = Outside; rest = []; transcript = [] } in
      let scene = scene-here t below known in
      sym (ring-is e i t s refl scene r m)
      ∙ closes-so _ (closes_ring count (look_with e i s.held) (waiting_with e i r m) i) f
      (reply-is e i t s refl scene r m false (Refused f) (subst (λ b. IsReply t i r m b (Refused f)) waits is))

-- ---- a request

-- what a request comes to, by what is answered
abbrev asked-trace : Scene → ℕ → List Change → Session → Rows' → Bool → Resource → Mode → List Task → Bool → Reply → Trace
asked-trace e i cs s rows n r m ts b a = record {
  changes = cs ++ elim b [
    | true ↦ let_go s.held
    | false ↦ elim a [
      | IsHad ↦ Had r (wanted (get s.held r) m) ∷ go_changes e i (taking s r m) rows ts
      | Waits ↦ []
      | Refused f ↦ let_go s.held
    ]
  ];
  refusal = elim b [
    | true ↦ None
    | false ↦ elim a [ IsHad ↦ go_refusal e i (taking s r m) rows ts | Waits ↦ None | Refused f ↦ Some (refusal e i s.held n r m) ]
  ];
}

-- what is had is what is held then
pub had-told : (t : Locks) (i : ℕ) (r : Resource) (m : Mode) → had_by r (look_in (taken t i r m) i r) ≡ Had r (wanted (get (slice i t.held) r) m) ∷ []
had-told t i r m =
    ap (had_by r) (get-insert t.held (i, r) (wanted (look_in t i r) m) (i, r)
    ∙ ap (λ b. Rattle.std.specs.Prelude.cond b (Some (wanted (look_in t i r) m)) (get t.held (i, r))) (same_key-refl holding_order (i, r)))
    ∙ ap (λ o. Had r (wanted o m) ∷ []) (sym (get-slice i t.held r))

module _ (count i : ℕ) (cs : List Change) (x : Standing) (r : Resource) (m : Mode) (n : Bool) (ts : List Task) where
  answered-trace : (e : Scene) → IsSceneOf count e i x.locks → (a : Reply) → is_broken x.own.status ≡ false → IsReply x.locks i r m n a
      → trace_in e i cs x (Ask n r m ∷ ts) ≡ asked-trace e i cs (session_in i x) x.layers.committed n r m ts false a
  answered-trace e scene a whole is = λ k. asked-trace e i cs (session_in i x) x.layers.committed n r m ts (whole k)
      (reply-is e i x.locks (session_in i x) refl scene.scene r m n a is k)

  pub had-traces : is_broken x.own.status ≡ false → IsReply x.locks i r m n IsHad
      → TracesOn count i cs x (Ask n r m ∷ ts) (cs ++ had_by r (look_in (taken x.locks i r m) i r))
      (record { layers = x.layers; locks = taken x.locks i r m; own = x.own }) ts
  had-traces whole is = λ e scene.
      answered-trace e scene IsHad whole is
      ∙ (λ k. record {
        changes = (sym (append_assoc cs (Had r (wanted (get (slice i x.locks.held) r) m) ∷ [])
            (go_changes e i (taking (session_in i x) r m) x.layers.committed ts))
            ∙ (λ j. (cs ++ sym (had-told x.locks i r m) j)
            ++ go_changes e i (sym (session-taken x.layers x.locks i r m x.own) j) x.layers.committed ts)) k;
        refusal = go_refusal e i (sym (session-taken x.layers x.locks i r m x.own) k) x.layers.committed ts;
      })

  pub waits-traces : is_broken x.own.status ≡ false → IsReply x.locks i r m n Waits
      → Traces count i cs x (Ask n r m ∷ ts) (record { changes = cs; refusal = None })
  waits-traces whole is = λ e scene. answered-trace e scene Waits whole is ∙ (λ k. record { changes = append-nil cs k; refusal = None })

  refusal-is : (e : Scene) → IsSceneOf count e i x.locks → (b : Bool) → refusal e i (slice i x.locks.held) b r m ≡ refusal_at count x.locks i b r m
  refusal-is e scene true = λ k. Wants (want_at (scene.many k) (look-now e i x.locks (session_in i x) refl scene.scene k)
      (last_spot (sym scene.scene.waits k) i r m))
  refusal-is e scene false = λ k. Closes (ring_told (scene.many k) (look-now e i x.locks (session_in i x) refl scene.scene k)
      (sym scene.scene.waits k ++ record { session = i; resource = r; mode = m } ∷ []) i)

  pub refused-traces : (f : Fault) → is_broken x.own.status ≡ false → IsReply x.locks i r m n (Refused f)
      → Traces count i cs x (Ask n r m ∷ ts)
      (record { changes = cs ++ let_go (slice i x.locks.held); refusal = Some (refusal_at count x.locks i n r m) })
  refused-traces f whole is = λ e scene.
      answered-trace e scene (Refused f) whole is
      ∙ (λ k. record { changes = cs ++ let_go (slice i x.locks.held); refusal = Some (refusal-is e scene n k) })

  pub broken-traces : is_broken x.own.status ≡ true
      → Traces count i cs x (Ask n r m ∷ ts) (record { changes = cs ++ let_go (slice i x.locks.held); refusal = None })
  broken-traces broken = λ e scene.
      ap (λ b. asked-trace e i cs (session_in i x) x.layers.committed n r m ts b (reply_in e i (session_in i x) n r m)) broken

-- ---- a statement

-- what a statement comes to, by what it does
abbrev done-trace : Scene → ℕ → List Change → Session → Bound → List Task → Performed → Trace
done-trace e i cs s st ts d = record {
  changes = cs ++ elim d [ Goes s2 rows2 ↦ did_changes (kind st) s.held ++ go_changes e i s2 rows2 ts | Fails f ↦ let_go s.held ];
  refusal = elim d [ Goes s2 rows2 ↦ go_refusal e i s2 rows2 ts | Fails f ↦ None ];
}

pub does-traces : (count i : ℕ) (cs : List Change) (x y : Standing) (st : Bound) (ts : List Task) → DoesTo i x st y
    → TracesOn count i cs x (Do st ∷ ts) (cs ++ did_changes (kind st) (slice i x.locks.held)) y ts
does-traces count i cs x y st ts does = λ e scene.
    ap (done-trace e i cs (session_in i x) st ts) does.goes
    ∙ (λ k. record {
      changes = sym (append_assoc cs (did_changes (kind st) (slice i x.locks.held)) (go_changes e i (session_in i y) y.layers.committed ts)) k;
      refusal = go_refusal e i (session_in i y) y.layers.committed ts;
    })

pub fails-traces : (count i : ℕ) (cs : List Change) (x y : Standing) (st : Bound) (f : Fault) (ts : List Task) → FailsBy i x st f y
    → Traces count i cs x (Do st ∷ ts) (record { changes = cs ++ let_go (slice i x.locks.held); refusal = None })
fails-traces count i cs x y st f ts by = λ e scene. ap (done-trace e i cs (session_in i x) st ts) by.fails

-- ---- the end of a step

pub ends-traces : (count i : ℕ) (cs : List Change) (x : Standing)
    → Traces count i cs x [] (record { changes = cs ++ end_changes x.own.status (slice i x.locks.held); refusal = None })
ends-traces count i cs x = λ e scene. refl

-- ---- a statement at the level of its transaction

-- what is asked for is the plan of the statement as it stands
pub asked-at : (x : Status) (st : Bound) (n : ℕ) (o : Option Request) → is_unlocked (in_status x st) ≡ false → slice_get (plan st) n ≡ o
    → slice_get (asked (in_status x st)) n ≡ o
asked-at x st n o locked is = subst (λ qs. slice_get qs n ≡ o) (sym (asked-plan x st locked)) is

pub reply-at : (x : Status) (st : Bound) (t : Locks) (i : ℕ) (r : Resource) (m : Mode) (a : Reply) → IsReply t i r m (nowait st) a
    → IsReply t i r m (nowait (in_status x st)) a
reply-at x st t i r m a is = subst (λ b. IsReply t i r m b a) (sym (nowait-in_status x st)) is

-- ---- one statement after another

module _ (count i : ℕ) (bs : List Change) (x y : Standing) (first : List Task) (b : Status) (sts : List Bound) (k n : ℕ) (st : Bound) (cs : List Change)
    (here : drop k sts ≡ st ∷ drop (k + 1) sts) (came : GoesOnTo i x first y (tasks_from b (drop k sts) n))
    (traced : TracesOn count i bs x first cs y (tasks_from b (drop k sts) n)) where
  abbrev q : Bound
  q = in_status b st

  abbrev left : List Task
  left = tasks_of (behind b st) (drop (k + 1) sts)

  traced-here : TracesOn count i bs x first cs y (asks (nowait q) (drop n (asked q)) (Do q ∷ left))
  traced-here = subst (λ ss. TracesOn count i bs x first cs y (tasks_from b ss n)) here traced

  -- the session stops at a request
  pub stops-trace : (trace : Trace) → ((ts : List Task) → Traces count i cs y (asks (nowait q) (drop n (asked q)) ts) trace) → Traces count i bs x first trace
  stops-trace trace stops = traces-on-stop count i bs cs x y first (asks (nowait q) (drop n (asked q)) (Do q ∷ left)) trace came.others came.waits traced-here
      (stops (Do q ∷ left))

  module _ (z : Standing) (ds : List Change) (goes : (ts : List Task) → GoesOnTo i y (asks (nowait q) (drop n (asked q)) ts) z ts)
      (had : (ts : List Task) → TracesOn count i cs y (asks (nowait q) (drop n (asked q)) ts) ds z ts) where
    asked-traced : TracesOn count i bs x first ds z (Do q ∷ left)
    asked-traced = traces-on-on count i bs cs ds x y z first (asks (nowait q) (drop n (asked q)) (Do q ∷ left)) (Do q ∷ left) came.others came.waits traced-here
        (had (Do q ∷ left))

    others : SameOthers i x.layers z.layers x.locks z.locks
    others = Rattle.session_steps.proofs.States.same-trans i x.layers y.layers z.layers x.locks y.locks z.locks came.others (goes []).others

    waits : z.locks.waits ≡ x.locks.waits
    waits = (goes []).waits ∙ came.waits

    -- what a statement lets go does not hang on its level
    goes-traced : (w : Standing) → DoesTo i z st w
        → TracesOn count i ds z (Do q ∷ left) (ds ++ did_changes (kind st) (slice i z.locks.held)) w left
    goes-traced w does = subst (λ e. TracesOn count i ds z (Do q ∷ left) (ds ++ did_changes e (slice i z.locks.held)) w left) (kind-in_status b st)
        (does-traces count i ds z w q left (does-at i b z w st does))

    pub done-trace-then : (w : Standing) → DoesTo i z st w → w.own.status ≡ behind b st
        → TracesOn count i bs x first (ds ++ did_changes (kind st) (slice i z.locks.held)) w (tasks_from w.own.status (drop (k + 1) sts) 0)
    done-trace-then w does is = subst (TracesOn count i bs x first (ds ++ did_changes (kind st) (slice i z.locks.held)) w)
        (sym (tasks_from-start w.own.status (drop (k + 1) sts) ∙ ap (λ c. tasks_of c (drop (k + 1) sts)) is))
        (traces-on-on count i bs ds (ds ++ did_changes (kind st) (slice i z.locks.held)) x z w first (Do q ∷ left) left others waits asked-traced
        (goes-traced w does))

    pub fails-trace-then : (w : Standing) (f : Fault) → FailsBy i z st f w
        → Traces count i bs x first (record { changes = ds ++ let_go (slice i z.locks.held); refusal = None })
    fails-trace-then w f by = traces-on-stop count i bs ds x z first (Do q ∷ left) (record { changes = ds ++ let_go (slice i z.locks.held); refusal = None })
        others waits asked-traced (fails-traces count i ds z w q f left (fails-at i b z w st f by))
