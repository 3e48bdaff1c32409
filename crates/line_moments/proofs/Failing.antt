-- A moment tells a ring exactly where its session is told of a deadlock, and a lack exactly where it is told that a lock was not available.
use Rattle.std.proofs.Common.{◌≡◌, ◌≢◌, refl, sym, ap, ◌∙◌, subst, ℕ, ◌<◌, Bool, true, false, ◌==◌, List, [], ◌∷◌, ◌++◌, length, map, get_or, Option}
use Rattle.std.proofs.Common.{Some, None, ◌⊎◌, inl, inr, ⊎_elim, ◌↔◌, eqb-true}
use Rattle.std.proofs.lemmas.Bool.{or_cases}
use Rattle.lock_queues.specs.declared.wait.Wait.{Wait}
use Rattle.lock_queues.specs.Locks.{waits_now}
use Rattle.lock_queues.specs.Sound.{EachWait}
use Rattle.lock_modes.specs.declared.value.Value.{Value}
use Rattle.lock_modes.specs.RowPlace.{RowPlace}
use Rattle.lock_modes.specs.Rows.{Rows', Tuple, Write}
use Rattle.finite_maps.specs.Map.{entries}
use Rattle.row_tables.specs.Overlay.{lay}
use Rattle.statement_evaluation.specs.Effect.{Effect, Gives, Faults, effect, shown, all_aggregated, or_fault, matching, visible, sorted_by, placed}
use Rattle.statement_evaluation.specs.Effect.{all_assigned, counted}
use Rattle.bound_specs.specs.Spec.{Step, no_step}
use Rattle.bound_statements.specs.declared.statement.Output.{Output}
use Rattle.bound_statements.specs.declared.statement.Output.TheVariants.{Columns, Aggregates}
use Rattle.bound_statements.specs.declared.statement.Bound.{Bound}
use Rattle.bound_statements.specs.declared.statement.Bound.TheVariants.{Select, Insert, Update, Delete, Begin, Commit, Rollback, Lock, SetVariable}
use Rattle.events.specs.declared.event.Event.{Event}
use Rattle.events.specs.declared.event.Event.TheVariants.{Sent, Row as RowEvent, Rows, Inserted, Updated, Deleted, Began, Committed, RolledBack}
use Rattle.events.specs.declared.event.Event.TheVariants.{Warned, Failed, Waiting}
use Rattle.events.specs.declared.event.Event.TheVariants.{Resumed, Done, NotSent}
use Rattle.events.specs.declared.event.Fault.{Fault}
use Rattle.events.specs.declared.event.Fault.TheVariants.{Duplicate, OutOfRange, Deadlock, Aborted, Unavailable}
use Rattle.events.specs.declared.event.Warning.TheVariants.{InBlock as AlreadyInBlock, NoBlock}
use Rattle.machine_model.specs.declared.reply.Reply.{Reply}
use Rattle.machine_model.specs.declared.reply.Reply.TheVariants.{Had, Waits, Refused}
use Rattle.machine_model.specs.declared.status.Status.{Status}
use Rattle.machine_model.specs.declared.status.Status.TheVariants.{Outside, InBlock, Broken}
use Rattle.machine_model.specs.Events.{is_effect}
use Rattle.machine_model.specs.Session.{Session, Task, Ask, Do, Performed, Goes, Fails, Kind, Begins, Commits, RollsBack, Works, kind, perform, perform_by}
use Rattle.machine_model.specs.Session.{worked}
use Rattle.machine_model.specs.Session.{tasks_of}
use Rattle.machine_model.specs.Go.{Scene, Run, go, taking, is_broken, replied, reply_in, finished_by, stopped, failed, held_up}
use Rattle.machine_model.specs.World.{World, session_at, look_of, scene_of}
use Rattle.machine_model.specs.Sound.{Sound}
use Rattle.machine_model.proofs.Telling.{AllEffects, TellsEffects, effect-tells}
use Rattle.machine_model.proofs.Settles.{entering-granted, idle-each}
use Rattle.lock_queues.specs.Reasons.{Want, Among}
use Rattle.lock_queues.specs.declared.told.Hop.{Hop}
use Rattle.line_moments.specs.declared.moment.Refusal.{Refusal}
use Rattle.line_moments.specs.declared.moment.Refusal.TheVariants.{Closes, Wants}
use Rattle.line_moments.specs.Moments.{Sends, GoesOn, Going, behind, line_goings, refusal, go_refusal, told_only, holding}
use Rattle.line_moments.specs.Moments.{without}
use Rattle.line_moments.specs.declared.moment.Ending.TheVariants.{Loses, Lacks}
use Rattle.line_moments.specs.Moments.{ending_by, moment_of, refusal_by, want_in, session_by, events_by}
use Rattle.line_moments.specs.Laws.{RingsAreTold, LacksAreTold}
use Rattle.lock_queues.proofs.Edges.{among-parts, among-right, want-waits}
use Rattle.line_moments.proofs.Losing.{loses-is, lacks-is}
use Rattle.line_moments.proofs.Telling.{before, go-before}
use Rattle.line_moments.proofs.Waiting.{line-each}

-- ---- why a request is refused, and by which fault

abbrev fault_of : Refusal → Fault
fault_of (Closes ring) = Deadlock
fault_of (Wants want) = Unavailable

refused-by : (had nowait closes : Bool) (f : Fault) (ring : List Hop) (want : Want) → replied had nowait closes ≡ Refused f
    → fault_of (elim nowait [ true ↦ Wants want | false ↦ Closes ring ]) ≡ f
refused-by true nowait closes f ring want is = absurd (let y : Had ≡ Refused f = is in cc)
refused-by false true closes f ring want is = let y : Refused Unavailable ≡ Refused f = is in cc
refused-by false false true f ring want is = let y : Refused Deadlock ≡ Refused f = is in cc
refused-by false false false f ring want is = absurd (let y : Waits ≡ Refused f = is in cc)

not-idle : (ws : List Wait) (i : ℕ) → waits_now ws i ≡ true → EachWait (λ v. v.session ≢ i) ws → ⊥
not-idle [] i h idle = let x : false ≡ true = h in cc
not-idle (w ∷ ws) i h idle = ⊎_elim (λ k. idle.0 (eqb-true w.session i k)) (λ k. not-idle ws i k idle.1) (or_cases (w.session == i) _ h)

wants-none : (o : Option Want) → ((want : Want) → o ≡ Some want → ⊥) → o ≡ None
wants-none None h = refl
wants-none (Some x) h = absurd (h x refl)

-- nothing is told of who does not wait
wants-nothing : (v : World) (i : ℕ) → EachWait (λ u. u.session ≢ i) v.waits → want_in v i ≡ None
wants-nothing v i idle = wants-none _ (λ want e. not-idle v.waits i (want-waits (length v.sessions) (look_of v) v.waits i want e) idle)

-- a fault that comes of requests alone
module _ (x : Fault) (range-no : OutOfRange ≢ x) (duplicate-no : Duplicate ≢ x) (aborted-no : Aborted ≢ x) where
  -- ---- no effect of a statement is such a fault

  abbrev NotIn : Effect → Type 0
  NotIn (Gives events writes) = Unit {0}
  NotIn (Faults f) = f ≢ x

  shown-no : (out : Output) (es : List (RowPlace × Tuple)) → NotIn (shown out es)
  shown-no (Columns columns) es = tt
  shown-no (Aggregates each) es = on (all_aggregated each es)
    where
      on : (o : Option (List Value)) → NotIn (elim o [
        | None ↦ Faults OutOfRange
        | Some vs ↦ Gives (RowEvent vs ∷ Rows 1 ∷ []) []
      ])
      on None = range-no
      on (Some vs) = tt

  or_fault-no : (f : Fault) (o : Option (List Write)) (event : ℕ → Event) → f ≢ x → NotIn (or_fault f o event)
  or_fault-no f None event h = h
  or_fault-no f (Some ws) event h = tt

  matched-no : (o : Option (List (RowPlace × Tuple))) (then' : List (RowPlace × Tuple) → Effect) → ((es : List (RowPlace × Tuple)) → NotIn (then' es))
      → NotIn (elim o [ None ↦ Faults OutOfRange | Some es ↦ then' es ])
  matched-no None then' h = range-no
  matched-no (Some es) then' h = h es

  effect-no : (st : Bound) (rows : Rows') → NotIn (effect st rows)
  unfolding effect
  effect-no (Select t key c by out l) rows = matched-no (matching c (entries (visible (Select t key c by out l) rows))) (λ es. shown out (sorted_by by es))
      (λ es. shown-no out (sorted_by by es))
  effect-no (Insert t (Some k) new) rows = or_fault-no Duplicate (placed t k new (visible (Insert t (Some k) new) rows)) Inserted duplicate-no
  effect-no (Insert t None new) rows = tt
  effect-no (Update t key sets c) rows = matched-no (matching c (entries (visible (Update t key sets c) rows))) (λ es.
      or_fault OutOfRange (all_assigned sets es) Updated) (λ es. or_fault-no OutOfRange (all_assigned sets es) Updated range-no)
  effect-no (Delete t key c) rows = matched-no (matching c (entries (visible (Delete t key c) rows))) (λ es.
      counted Deleted (map (λ (e : RowPlace × Tuple). record { place = e.0; left = None }) es)) (λ es. tt)
  effect-no (Lock t m n) rows = tt
  effect-no SetVariable rows = tt
  effect-no (Begin level) rows = tt
  effect-no Commit rows = tt
  effect-no Rollback rows = tt

  -- ---- what a session is told

  abbrev Lost : List Event → Type 0
  Lost es = Among (Failed x) es

  abbrev OneOf : Event → Type 0
  OneOf e = Failed x ≢ e

  lost-push : (t : List Event) (e : Event) → OneOf e → Lost (t ++ e ∷ []) → Lost t
  lost-push t e no_e m = ⊎_elim (λ h. h) (λ h. ⊎_elim (λ k. absurd (no_e k)) (λ k. absurd k) h) (among-parts (Failed x) t (e ∷ []) m)

  lost-by : (t : List Event) (f : Fault) → Lost (t ++ Failed f ∷ Done ∷ []) → Lost t ⊎ (f ≡ x)
  lost-by t f m = ⊎_elim (λ h. inl h) two (among-parts (Failed x) t (Failed f ∷ Done ∷ []) m)
    where
      two : Lost (Failed f ∷ Done ∷ []) → Lost t ⊎ (f ≡ x)
      two (inl k) = inr (let same : Failed x ≡ Failed f = k in let y : f ≡ x = cc in y)
      two (inr (inl k)) = absurd (let y : Failed x ≡ Done = k in cc)
      two (inr (inr k)) = absurd k

  lost-fault : (t : List Event) (f : Fault) → f ≢ x → Lost (t ++ Failed f ∷ Done ∷ []) → Lost t
  lost-fault t f no_f m = ⊎_elim (λ h. h) (λ h. absurd (no_f h)) (lost-by t f m)

  lost-effects : (t es : List Event) → AllEffects es → Lost (t ++ es) → Lost t
  lost-effects t es all m = ⊎_elim (λ h. h) (λ h. absurd (none es all h)) (among-parts (Failed x) t es m)
    where
      none : (es : List Event) → AllEffects es → Lost es → ⊥
      none [] all k = k
      none (e ∷ es) all (inl k) = let y : is_effect (Failed x) ≡ true = ap is_effect k ∙ all.0 in let z : false ≡ true = y in cc
      none (e ∷ es) all (inr k) = none es all.1 k

  -- a statement that goes tells of none, and one that fails is none
  abbrev NoneNew : List Event → Performed → Type 0
  NoneNew t (Goes s rows) = Lost s.transcript → Lost t
  NoneNew t (Fails f) = f ≢ x

  worked-none : (s : Session) (rows : Rows') (f : Effect) → TellsEffects f → NotIn f → NoneNew s.transcript (worked s rows f)
  worked-none s rows (Gives events writes) d n = lost-effects s.transcript events d
  worked-none s rows (Faults f) d n = n

  perform_by-none : (b : Status) (k : Kind) (s : Session) (rows : Rows') (st : Bound) → NoneNew s.transcript (perform_by b k s rows st)
  perform_by-none Outside (Begins level) s rows st = lost-push s.transcript Began (λ e. cc)
  perform_by-none (InBlock of) (Begins level) s rows st = λ m.
      lost-push s.transcript (Warned AlreadyInBlock) (λ e. cc) (lost-push (s.transcript ++ Warned AlreadyInBlock ∷ []) Began (λ e. cc) m)
  perform_by-none Broken (Begins level) s rows st = aborted-no
  perform_by-none Outside Commits s rows st = λ m.
      lost-push s.transcript (Warned NoBlock) (λ e. cc) (lost-push (s.transcript ++ Warned NoBlock ∷ []) Committed (λ e. cc) m)
  perform_by-none (InBlock of) Commits s rows st = lost-push s.transcript Committed (λ e. cc)
  perform_by-none Broken Commits s rows st = lost-push s.transcript RolledBack (λ e. cc)
  perform_by-none Outside RollsBack s rows st = λ m.
      lost-push s.transcript (Warned NoBlock) (λ e. cc) (lost-push (s.transcript ++ Warned NoBlock ∷ []) RolledBack (λ e. cc) m)
  perform_by-none (InBlock of) RollsBack s rows st = lost-push s.transcript RolledBack (λ e. cc)
  perform_by-none Broken RollsBack s rows st = lost-push s.transcript RolledBack (λ e. cc)
  perform_by-none Outside Works s rows st = worked-none s rows _ (effect-tells st (lay s.overlay rows)) (effect-no st (lay s.overlay rows))
  perform_by-none (InBlock of) Works s rows st = worked-none s rows _ (effect-tells st (lay s.overlay rows)) (effect-no st (lay s.overlay rows))
  perform_by-none Broken Works s rows st = aborted-no

  finished-none : (b : Status) (s : Session) (rows : Rows') → Lost (finished_by b s rows).session.transcript → Lost s.transcript
  finished-none Outside s rows = lost-push s.transcript Done (λ e. cc)
  finished-none (InBlock of) s rows = lost-push s.transcript Done (λ e. cc)
  finished-none Broken s rows = lost-push s.transcript Done (λ e. cc)

  -- ---- a session goes

  -- it is refused a request by this fault
  abbrev Ends : Scene → ℕ → Session → Rows' → List Task → Type 0
  Ends e i s rows ts = (r : Refusal) × (go_refusal e i s rows ts ≡ Some r) × (fault_of r ≡ x)

  -- told of the fault, it was refused by it
  go-lost : (e : Scene) (i : ℕ) (s : Session) (rows : Rows') (ts : List Task) → Lost (go e i s rows ts).session.transcript
      → Lost s.transcript ⊎ Ends e i s rows ts
  go-lost e i s rows [] m = inl (finished-none s.status s rows m)
  go-lost e i s rows (Ask nowait r m ∷ ts) l = at (is_broken s.status) (reply_in e i s nowait r m) refl l (go-lost e i (taking s r m) rows ts)
    where
      at : (b : Bool) (a : Reply) → reply_in e i s nowait r m ≡ a
          → (let y : Run = elim b [
            | true ↦ stopped e (failed s rows Aborted)
            | false ↦ elim a [ Had ↦ go e i (taking s r m) rows ts | Waits ↦ held_up e i s rows r m ts | Refused f ↦ stopped e (failed s rows f) ]
          ] in Lost y.session.transcript)
          → (Lost (go e i (taking s r m) rows ts).session.transcript → Lost s.transcript ⊎ Ends e i (taking s r m) rows ts)
          → Lost s.transcript ⊎ ((y : Refusal) × ((let o : Option Refusal = elim b [
            | true ↦ None
            | false ↦ elim a [
              | Had ↦ go_refusal e i (taking s r m) rows ts
              | Waits ↦ None
              | Refused f ↦ Some (refusal e i s.held nowait r m)
            ]
          ] in o) ≡ Some y) × (fault_of y ≡ x))
      at true a is k rec = inl (lost-fault s.transcript Aborted aborted-no k)
      at false Had is k rec = rec k
      at false Waits is k rec = inl (lost-push s.transcript Waiting (λ e. cc) k)
      at false (Refused f) is k rec =
          ⊎_elim (λ h. inl h) (λ h. inr (refusal e i s.held nowait r m, refl, refused-by _ nowait _ f _ _ is ∙ h)) (lost-by s.transcript f k)
  go-lost e i s rows (Do st ∷ ts) l = at (perform s rows st) (perform_by-none s.status (kind st) s rows st) l (λ s2 rows2. go-lost e i s2 rows2 ts)
    where
      at : (p : Performed) → NoneNew s.transcript p
          → (let y : Run = elim p [ Goes s2 rows2 ↦ go e i s2 rows2 ts | Fails f ↦ stopped e (failed s rows f) ] in Lost y.session.transcript)
          → ((s2 : Session) (rows2 : Rows') → Lost (go e i s2 rows2 ts).session.transcript → Lost s2.transcript ⊎ Ends e i s2 rows2 ts)
          → Lost s.transcript ⊎ ((y : Refusal)
          × ((let o : Option Refusal = elim p [ Goes s2 rows2 ↦ go_refusal e i s2 rows2 ts | Fails f ↦ None ] in o) ≡ Some y) × (fault_of y ≡ x))
      at (Goes s2 rows2) n k rec = ⊎_elim (λ h. inl (n h)) (λ h. inr h) (rec s2 rows2 k)
      at (Fails f) n k rec = inl (lost-fault s.transcript f n k)

  -- refused by it, it is told so, and waits for nothing
  go-told : (e : Scene) (i : ℕ) (s : Session) (rows : Rows') (ts : List Task) (y : Refusal) → fault_of y ≡ x → go_refusal e i s rows ts ≡ Some y
      → Lost (go e i s rows ts).session.transcript × ((go e i s rows ts).waits ≡ e.waits)
  go-told e i s rows [] y by k = absurd (let z : None ≡ Some y = k in cc)
  go-told e i s rows (Ask nowait r m ∷ ts) y by l = at (is_broken s.status) (reply_in e i s nowait r m) refl l (go-told e i (taking s r m) rows ts y by)
    where
      at : (b : Bool) (a : Reply) → reply_in e i s nowait r m ≡ a
          → (let o : Option Refusal = elim b [
            | true ↦ None
            | false ↦ elim a [
              | Had ↦ go_refusal e i (taking s r m) rows ts
              | Waits ↦ None
              | Refused f ↦ Some (refusal e i s.held nowait r m)
            ]
          ] in o) ≡ Some y
          → (go_refusal e i (taking s r m) rows ts ≡ Some y
          → Lost (go e i (taking s r m) rows ts).session.transcript × ((go e i (taking s r m) rows ts).waits ≡ e.waits))
          → (let z : Run = elim b [
            | true ↦ stopped e (failed s rows Aborted)
            | false ↦ elim a [ Had ↦ go e i (taking s r m) rows ts | Waits ↦ held_up e i s rows r m ts | Refused f ↦ stopped e (failed s rows f) ]
          ] in Lost z.session.transcript × (z.waits ≡ e.waits))
      at true a is k rec = absurd (let z : None ≡ Some y = k in cc)
      at false Had is k rec = rec k
      at false Waits is k rec = absurd (let z : None ≡ Some y = k in cc)
      at false (Refused f) is k rec =
          let same : refusal e i s.held nowait r m ≡ y = (let z : Some (refusal e i s.held nowait r m) ≡ Some y = k in cc) in
          let own : x ≡ f = sym by ∙ sym (ap fault_of same) ∙ refused-by _ nowait _ f _ _ is in
          (among-right (Failed x) s.transcript (Failed f ∷ Done ∷ []) (inl (ap Failed own)), refl)
  go-told e i s rows (Do st ∷ ts) y by l = at (perform s rows st) l (λ s2 rows2. go-told e i s2 rows2 ts y by)
    where
      at : (p : Performed) → (let o : Option Refusal = elim p [ Goes s2 rows2 ↦ go_refusal e i s2 rows2 ts | Fails f ↦ None ] in o) ≡ Some y
          → ((s2 : Session) (rows2 : Rows') → go_refusal e i s2 rows2 ts ≡ Some y
          → Lost (go e i s2 rows2 ts).session.transcript × ((go e i s2 rows2 ts).waits ≡ e.waits))
          → (let z : Run = elim p [ Goes s2 rows2 ↦ go e i s2 rows2 ts | Fails f ↦ stopped e (failed s rows f) ] in
          Lost z.session.transcript × (z.waits ≡ e.waits))
      at (Goes s2 rows2) k rec = rec s2 rows2 k
      at (Fails f) k rec = absurd (let z : None ≡ Some y = k in cc)

  -- ---- the moments of a line

  -- told of the fault, it was refused by it and waits for nothing, and so the other way round
  abbrev Told : List Step → Going → Type 0
  Told steps g = (Lost (moment_of steps g).events → want_in (behind steps g) (session_by steps g.cause) ≡ None)
      × (Lost (moment_of steps g).events ↔ ((r : Refusal) × (refusal_by steps g.world g.cause ≡ Some r) × (fault_of r ≡ x)))

  -- a session that goes, in a world where it does not wait
  going-told : (steps : List Step) (g : Going) (w : World) (t : List Event) (u : Session) (ts : List Task)
      → EachWait (λ v. v.session ≢ session_by steps g.cause) w.waits
      → (Lost u.transcript → ⊥) → events_by steps g.world g.cause ≡ (go (scene_of w) (session_by steps g.cause) u w.rows ts).session.transcript
      → refusal_by steps g.world g.cause ≡ go_refusal (scene_of w) (session_by steps g.cause) u w.rows ts
      → (behind steps g).waits ≡ (go (scene_of w) (session_by steps g.cause) (before t u) w.rows ts).waits → Told steps g
  going-told steps g w t u ts idle none events refuses waits = (idles, (to, from))
    where
      found : Lost (go (scene_of w) (session_by steps g.cause) u w.rows ts).session.transcript
          → Ends (scene_of w) (session_by steps g.cause) u w.rows ts
      found m = ⊎_elim (λ h. absurd (none h)) (λ h. h) (go-lost (scene_of w) (session_by steps g.cause) u w.rows ts m)

      idles : Lost (events_by steps g.world g.cause) → want_in (behind steps g) (session_by steps g.cause) ≡ None
      idles m =
          let r = found (subst Lost events m) in
          let same : (behind steps g).waits ≡ w.waits =
          waits ∙ ap (λ (y : Run). y.waits) (go-before t (scene_of w) (session_by steps g.cause) u w.rows ts)
          ∙ (go-told (scene_of w) (session_by steps g.cause) u w.rows ts r.0 r.2 r.1).1 in
          wants-nothing (behind steps g) (session_by steps g.cause) (subst (EachWait (λ v. v.session ≢ session_by steps g.cause)) (sym same) idle)

      to : Lost (events_by steps g.world g.cause) → (r : Refusal) × (refusal_by steps g.world g.cause ≡ Some r) × (fault_of r ≡ x)
      to m = let r = found (subst Lost events m) in (r.0, refuses ∙ r.1, r.2)

      from : (r : Refusal) × (refusal_by steps g.world g.cause ≡ Some r) × (fault_of r ≡ x) → Lost (events_by steps g.world g.cause)
      from r = subst Lost (sym events) (go-told (scene_of w) (session_by steps g.cause) u w.rows ts r.0 r.2 (sym refuses ∙ r.1)).0

  one-none : (e : Event) → Failed x ≢ e → Lost (e ∷ []) → ⊥
  one-none e h (inl k) = h k
  one-none e h (inr k) = k

  moments-fail : (steps : List Step) (w : World) (ks : List ℕ) → Sound w → ((k : ℕ) → (get_or steps k no_step).session < length w.sessions) → (g : Going)
      → Among g (line_goings steps w ks) → Told steps g
  moments-fail steps = line-each steps (Told steps)
      (λ w k sound lt is.
      let i = (get_or steps k no_step).session in
      going-told steps (record { world = w; cause = Sends k }) w (session_at w i).transcript (told_only (session_at w i) (Sent k))
      (tasks_of (session_at w (get_or steps k no_step).session).status (get_or steps k no_step).statements) (idle-each w.waits i is) (one-none (Sent k) (λ e. cc)) refl refl refl)
      (λ w spot st h.
      let i = spot.wait.session in
      going-told steps (record { world = w; cause = GoesOn spot }) (without w spot) (session_at w i).transcript (told_only (holding w spot) Resumed)
      (session_at w i).rest (entering-granted w spot st h).idle (one-none Resumed (λ e. cc)) refl refl refl)
      (λ w k sound lt is. (
        (λ m. absurd (one-none (NotSent k) (λ e. cc) m)),
        ((λ m. absurd (one-none (NotSent k) (λ e. cc) m)), (λ r. absurd (let y : None ≡ Some r.0 = r.1 in cc))),
      ))

loses-by : (o : Option Want) (r : Option Refusal) → o ≡ None → (y : Refusal) × (r ≡ Some y) × (fault_of y ≡ Deadlock)
    → (hs : List Hop) × (ending_by o r ≡ Loses hs)
loses-by (Some want) r p q = absurd (let y : Some want ≡ None = p in cc)
loses-by None r p (Closes ring, is, by) = (ring, ap (ending_by None) is)
loses-by None r p (Wants want, is, by) = absurd (let y : Unavailable ≡ Deadlock = by in cc)

lacks-by : (o : Option Want) (r : Option Refusal) → o ≡ None → (y : Refusal) × (r ≡ Some y) × (fault_of y ≡ Unavailable)
    → (want : Want) × (ending_by o r ≡ Lacks want)
lacks-by (Some want) r p q = absurd (let y : Some want ≡ None = p in cc)
lacks-by None r p (Closes ring, is, by) = absurd (let y : Deadlock ≡ Unavailable = by in cc)
lacks-by None r p (Wants want, is, by) = (want, ap (ending_by None) is)

pub rings-told : RingsAreTold
rings-told steps w ks sound fit g m =
    let told = moments-fail Deadlock (λ e. cc) (λ e. cc) (λ e. cc) steps w ks sound fit g m in
    let o = want_in (behind steps g) (session_by steps g.cause) in
    let r = refusal_by steps g.world g.cause in (
      (λ k. loses-by o r (told.0 k) (told.1.0 k)),
      (λ h. told.1.1 (Closes h.0, loses-is o r h.0 h.1, refl)),
    )

pub lacks-told : LacksAreTold
lacks-told steps w ks sound fit g m =
    let told = moments-fail Unavailable (λ e. cc) (λ e. cc) (λ e. cc) steps w ks sound fit g m in
    let o = want_in (behind steps g) (session_by steps g.cause) in
    let r = refusal_by steps g.world g.cause in (
      (λ k. lacks-by o r (told.0 k) (told.1.0 k)),
      (λ h. told.1.1 (Wants h.0, lacks-is o r h.0 h.1, refl)),
    )
