-- The rows of a run fit their tables.
use Rattle.std.proofs.Common.{◌≡◌, sym, subst, ℕ, zero, suc, ◌<◌, ◌≤◌, arith, Bool, true, false, not, ◌||◌, List, [], ◌∷◌, ◌++◌, length}
use Rattle.std.proofs.Common.{get_or, set, Option, Some, None, All, ◌⊎◌, ⊎_elim, length-set, get_or-set_same, get_or-set_other}
use Rattle.std.specs.Prelude.{⊤}
use Rattle.std.proofs.lemmas.List.{get_or_past}
use Rattle.std.proofs.lemmas.List.Elements.{All-head, All-tail}
use Rattle.finite_maps.specs.Map.{empty}
use Rattle.lock_modes.specs.RowPlace.{place_order}
use Rattle.lock_modes.specs.Rows.{Tuple, Rows'}
use Rattle.lock_queues.specs.Locks.{Spot, next_grant, waits_now}
use Rattle.row_tables.specs.Overlay.{lay}
use Rattle.bound_statements.specs.Levels.{asked}
use Rattle.bound_statements.specs.Plan.{Request, nowait}
use Rattle.bound_statements.specs.declared.statement.Bound.{Bound}
use Rattle.binding_model.specs.declared.tables.Table.{Table}
use Rattle.bound_specs.specs.Fits.{Fits, SpecFits}
use Rattle.bound_specs.specs.Spec.{Spec, Step, no_step}
use Rattle.events.specs.declared.event.Fault.{Fault}
use Rattle.events.specs.declared.event.Fault.TheVariants.{Aborted}
use Rattle.events.specs.declared.event.Event.TheVariants.{Sent, Resumed, NotSent}
use Rattle.statement_evaluation.specs.Effect.{Effect, Gives, Faults, effect}
use Rattle.statement_evaluation.proofs.ListLemmas.{Each}
use Rattle.statement_evaluation.proofs.WriteLemmas.{OnGives}
use Rattle.machine_model.specs.declared.status.Status.{Status}
use Rattle.machine_model.specs.declared.status.Status.TheVariants.{Outside, InBlock, Broken}
use Rattle.machine_model.proofs.Levels.{fits-in_status}
use Rattle.machine_model.specs.Session.{Task, Ask, Do, Session, Kind, Begins, Commits, RollsBack, Works, kind, note, asks, behind, in_status, tasks_of, Performed, Goes, Fails}
use Rattle.machine_model.specs.Session.{worked, perform_by, perform}
use Rattle.machine_model.specs.Go.{Scene, Run, go, taking, is_broken, reply_in, finished_by, stopped, failed, held_up}
use Rattle.machine_model.specs.declared.reply.Reply.{Reply}
use Rattle.machine_model.specs.declared.reply.Reply.TheVariants.{Had, Waits, Refused}
use Rattle.machine_model.specs.World.{World, fresh, session_at, look_of, scene_of, noted, goes, granted, settle_for, settle, left_to_do, send, send_all}
use Rattle.machine_model.specs.Start.{Start, Started, SetupFailed, SessionSetupFailed, SessionSetupWaits, start, set_up, started_then, main_setups}
use Rattle.machine_model.specs.Start.{session_setups, after_setup, forgotten, has_failed, is_outside}
use Rattle.machine_model.specs.Typed.{RowsFit, seen_by, LeftFits, TaskFits, SessionFits, WorldFits, SeeFit, EntryFits}
use Rattle.machine_model.proofs.Basics.{cases-eq}
use Rattle.machine_model.proofs.Starts.{OnStarted, first_world, get_or-replicate}
use Rattle.machine_model.proofs.Takings.{each-all, all-each, each-empty, EachFits, OverlayFits, WriteFits, written-fits, lay-fits, effect-fits}
use Rattle.lock_modes.specs.RowPlace.{RowPlace}
use Rattle.finite_maps.specs.Map.{entries}

-- what holds of a session that takes its place holds of all, where it does of the others
set-each : (P : Session → Type 0) → P fresh → (ss : List Session) (i : ℕ) (s : Session) → P s → ((c : ℕ) → P (get_or ss c fresh)) → (c : ℕ)
    → P (get_or (set ss i s) c fresh)
set-each P none ss i s own all c = ⊎_elim there (λ ne. subst P (sym (get_or-set_other ss i c s fresh ne)) (all c)) (cases-eq c i)
  where
    within : (i < length ss) ⊎ (length ss ≤ i) → P (get_or (set ss i s) i fresh)
    within cases =
        ⊎_elim (λ lt. subst P (sym (get_or-set_same ss i s fresh lt)) own)
        (λ le. subst P (sym (get_or_past (set ss i s) i fresh (subst (λ n. n ≤ i) (sym (length-set ss i s)) le))) none) cases

    there : c ≡ i → P (get_or (set ss i s) c fresh)
    there is = subst (λ d. P (get_or (set ss i s) d fresh)) (sym is) (within (grind arith))

module _ (tables : List Table) where
  -- what a session has written fits, and so do the statements that are left of its step
  record EachSession (s : Session) : Type 0 where
    pub overlay : OverlayFits tables s.overlay
    pub rest : Each (TaskFits tables) s.rest

  record RunFits (x : Run) : Type 0 where
    pub session : EachSession x.session
    pub rows : EachFits tables x.rows

  record EachWorld (w : World) : Type 0 where
    pub rows : EachFits tables w.rows
    pub sessions : (c : ℕ) → EachSession (session_at w c)

  no-rows : EachFits tables empty
  no-rows = each-empty place_order (EntryFits tables)

  no-overlay : OverlayFits tables empty
  no-overlay = each-empty place_order (λ (e : RowPlace × Option Tuple). LeftFits tables e.0 e.1)

  fresh-fits : EachSession fresh
  fresh-fits = record { overlay = no-overlay; rest = tt }

  -- ---- a session goes

  asks-fit : (n : Bool) (qs : List Request) (ts : List Task) → Each (TaskFits tables) ts → Each (TaskFits tables) (asks n qs ts)
  asks-fit n [] ts h = h
  asks-fit n (q ∷ qs) ts h = (tt, asks-fit n qs ts h)

  tasks-fit : (x : Status) (ss : List Bound) → All (Fits tables) ss → Each (TaskFits tables) (tasks_of x ss)
  tasks-fit x [] h = tt
  tasks-fit x (s ∷ ss) h =
      let st = in_status x s in
      asks-fit (nowait st) (asked st) (Do st ∷ tasks_of (behind x s) ss)
      (fits-in_status tables x s (All-head (Fits tables) s ss h), tasks-fit (behind x s) ss (All-tail (Fits tables) s ss h))

  abbrev PerformedFits : Performed → Type 0
  PerformedFits (Goes s rows) = EachSession s × EachFits tables rows
  PerformedFits (Fails f) = ⊤

  worked-fits : (s : Session) (rows : Rows') (f : Effect) → OnGives f (Each (WriteFits tables)) → EachSession s → EachFits tables rows
      → PerformedFits (worked s rows f)
  worked-fits s rows (Gives events writes) d h all = (record { overlay = written-fits tables writes s.overlay d h.overlay; rest = h.rest }, all)
  worked-fits s rows (Faults f) d h all = tt

  perform_by-fits : (b : Status) (k : Kind) (s : Session) (rows : Rows') (st : Bound) → Fits tables st → EachSession s → EachFits tables rows
      → PerformedFits (perform_by b k s rows st)
  perform_by-fits Outside (Begins level) s rows st fits h all = (record { overlay = h.overlay; rest = h.rest }, all)
  perform_by-fits (InBlock of) (Begins level) s rows st fits h all = (record { overlay = h.overlay; rest = h.rest }, all)
  perform_by-fits Broken (Begins level) s rows st fits h all = tt
  perform_by-fits Outside Commits s rows st fits h all = (record { overlay = no-overlay; rest = h.rest }, lay-fits tables s.overlay rows h.overlay all)
  perform_by-fits (InBlock of) Commits s rows st fits h all = (record { overlay = no-overlay; rest = h.rest }, lay-fits tables s.overlay rows h.overlay all)
  perform_by-fits Broken Commits s rows st fits h all = (record { overlay = no-overlay; rest = h.rest }, all)
  perform_by-fits Outside RollsBack s rows st fits h all = (record { overlay = no-overlay; rest = h.rest }, all)
  perform_by-fits (InBlock of) RollsBack s rows st fits h all = (record { overlay = no-overlay; rest = h.rest }, all)
  perform_by-fits Broken RollsBack s rows st fits h all = (record { overlay = no-overlay; rest = h.rest }, all)
  perform_by-fits Outside Works s rows st fits h all =
      worked-fits s rows (effect st (lay s.overlay rows)) (effect-fits tables st (lay s.overlay rows) fits (lay-fits tables s.overlay rows h.overlay all)) h all
  perform_by-fits (InBlock of) Works s rows st fits h all =
      worked-fits s rows (effect st (lay s.overlay rows)) (effect-fits tables st (lay s.overlay rows) fits (lay-fits tables s.overlay rows h.overlay all)) h all
  perform_by-fits Broken Works s rows st fits h all = tt

  failed-fits : (e : Scene) (s : Session) (rows : Rows') (f : Fault) → EachFits tables rows → RunFits (stopped e (failed s rows f))
  failed-fits e s rows f all = record { session = record { overlay = no-overlay; rest = tt }; rows = all }

  finished-fits : (e : Scene) (b : Status) (s : Session) (rows : Rows') → EachSession s → EachFits tables rows → RunFits (stopped e (finished_by b s rows))
  finished-fits e Outside s rows h all = record {
    session = record { overlay = no-overlay; rest = h.rest };
    rows = lay-fits tables s.overlay rows h.overlay all;
  }
  finished-fits e (InBlock of) s rows h all = record { session = record { overlay = h.overlay; rest = h.rest }; rows = all }
  finished-fits e Broken s rows h all = record { session = record { overlay = h.overlay; rest = h.rest }; rows = all }

  go-fits : (e : Scene) (i : ℕ) (s : Session) (rows : Rows') (ts : List Task) → EachSession s → EachFits tables rows → Each (TaskFits tables) ts
      → RunFits (go e i s rows ts)
  go-fits e i s rows [] h all fits = finished-fits e s.status s rows h all
  go-fits e i s rows (Ask n r m ∷ ts) h all fits =
      at (is_broken s.status) (reply_in e i s n r m) (go-fits e i (taking s r m) rows ts (record { overlay = h.overlay; rest = h.rest }) all fits.1)
    where
      at : (b : Bool) (a : Reply) → RunFits (go e i (taking s r m) rows ts)
          → let x : Run = elim b [
            | true ↦ stopped e (failed s rows Aborted)
            | false ↦ elim a [
              | Had ↦ go e i (taking s r m) rows ts
              | Waits ↦ held_up e i s rows r m ts
              | Refused f ↦ stopped e (failed s rows f)
            ]
          ] in
          RunFits x
      at true a rec = failed-fits e s rows Aborted all
      at false Had rec = rec
      at false Waits rec = record { session = record { overlay = h.overlay; rest = fits.1 }; rows = all }
      at false (Refused f) rec = failed-fits e s rows f all
  go-fits e i s rows (Do st ∷ ts) h all fits =
      at (perform s rows st) (perform_by-fits s.status (kind st) s rows st fits.0 h all) (λ s2 rows2 h2 all2. go-fits e i s2 rows2 ts h2 all2 fits.1)
    where
      at : (p : Performed) → PerformedFits p
          → ((s2 : Session) (rows2 : Rows') → EachSession s2 → EachFits tables rows2 → RunFits (go e i s2 rows2 ts))
          → let x : Run = elim p [ Goes s2 rows2 ↦ go e i s2 rows2 ts | Fails f ↦ stopped e (failed s rows f) ] in
          RunFits x
      at (Goes s2 rows2) d rec = rec s2 rows2 d.0 d.1
      at (Fails f) d rec = failed-fits e s rows f all

  -- ---- a world

  goes-fits : (w : World) (i : ℕ) (s : Session) (ts : List Task) → EachWorld w → EachSession s → Each (TaskFits tables) ts → EachWorld (goes w i s ts)
  goes-fits w i s ts h own fits =
      let x = go-fits (scene_of w) i s w.rows ts own h.rows fits in
      record { rows = x.rows; sessions = set-each EachSession fresh-fits w.sessions i (go (scene_of w) i s w.rows ts).session x.session h.sessions }

  granted-fits : (w : World) (spot : Spot) → EachWorld w → EachWorld (granted w spot)
  granted-fits w spot h =
      let i = spot.wait.session in
      let s = session_at w i in
      goes-fits (record w { waits = spot.before ++ spot.after }) i (note (record (taking s spot.wait.resource spot.wait.mode) { rest = [] }) Resumed) s.rest
      (record { rows = h.rows; sessions = h.sessions }) (record { overlay = (h.sessions i).overlay; rest = tt }) (h.sessions i).rest

  settle_for-fits : (k : ℕ) (w : World) → EachWorld w → EachWorld (settle_for k w)
  settle_for-fits zero w h = h
  settle_for-fits (suc k) w h = at (next_grant (length w.sessions) (look_of w) w.waits) (λ spot. settle_for-fits k (granted w spot) (granted-fits w spot h))
    where
      at : (o : Option Spot) → ((spot : Spot) → EachWorld (settle_for k (granted w spot)))
          → EachWorld (elim o [ None ↦ w | Some spot ↦ settle_for k (granted w spot) ])
      at None rec = h
      at (Some spot) rec = rec spot

  put-fits : (w : World) (i : ℕ) (s : Session) → EachWorld w → EachSession s → EachWorld (record w { sessions = set w.sessions i s })
  put-fits w i s h own = record { rows = h.rows; sessions = set-each EachSession fresh-fits w.sessions i s own h.sessions }

  send-fits : (steps : List Step) (w : World) (k : ℕ) → All (Fits tables) (get_or steps k no_step).statements → EachWorld w → EachWorld (send steps w k)
  send-fits steps w k fits h = at (waits_now w.waits i)
    where
      i : ℕ
      i = (get_or steps k no_step).session

      s : Session
      s = session_at w i

      at : (b : Bool) → EachWorld (elim b [
        | true ↦ noted w i (NotSent k)
        | false ↦ settle
            (goes w i (note s (Sent k)) (tasks_of s.status (get_or steps k no_step).statements))
      ])
      at true = put-fits w i (note s (NotSent k)) h (record { overlay = (h.sessions i).overlay; rest = (h.sessions i).rest })
      at false =
          let v = goes w i (note s (Sent k)) (tasks_of s.status (get_or steps k no_step).statements) in
          settle_for-fits (left_to_do v) v
          (goes-fits w i (note s (Sent k)) (tasks_of s.status (get_or steps k no_step).statements) h
          (record { overlay = (h.sessions i).overlay; rest = (h.sessions i).rest }) (tasks-fit s.status (get_or steps k no_step).statements fits))

  -- ---- from the start of a spec

  setup-fits : (w : World) (i : ℕ) (block : List Bound) → All (Fits tables) block → EachWorld w → EachWorld (forgotten (after_setup w i block) i)
  setup-fits w i block fits h =
      let v = after_setup w i block in
      let gone = goes-fits w i (session_at w i) (tasks_of (session_at w i).status block) h (h.sessions i) (tasks-fit (session_at w i).status block fits) in
      put-fits v i (record (session_at v i) { transcript = [] }) gone (record { overlay = (gone.sessions i).overlay; rest = (gone.sessions i).rest })

  main-fits : (control k : ℕ) (w : World) (blocks : List (List Bound)) → All (All (Fits tables)) blocks → EachWorld w
      → OnStarted (main_setups control k w blocks) EachWorld
  main-fits control k w [] fits h = h
  main-fits control k w (block ∷ blocks) fits h =
      at (has_failed (session_at (after_setup w control block) control) || not (is_outside (session_at (after_setup w control block) control).status))
      (main-fits control (suc k) (forgotten (after_setup w control block) control) blocks (All-tail (All (Fits tables)) block blocks fits)
      (setup-fits w control block (All-head (All (Fits tables)) block blocks fits) h))
    where
      rest : Start
      rest = main_setups control (suc k) (forgotten (after_setup w control block) control) blocks

      at : (b : Bool) → OnStarted rest EachWorld → OnStarted (elim b [ true ↦ SetupFailed k | false ↦ rest ]) EachWorld
      at true rec = tt
      at false rec = rec

  own-fits : (i : ℕ) (w : World) (blocks : List (List Bound)) → All (All (Fits tables)) blocks → EachWorld w → OnStarted (session_setups i w blocks) EachWorld
  own-fits i w [] fits h = h
  own-fits i w (block ∷ blocks) fits h =
      at (has_failed (session_at (after_setup w i block) i)) (waits_now (after_setup w i block).waits i)
      (own-fits (suc i) (forgotten (after_setup w i block) i) blocks (All-tail (All (Fits tables)) block blocks fits)
      (setup-fits w i block (All-head (All (Fits tables)) block blocks fits) h))
    where
      rest : Start
      rest = session_setups (suc i) (forgotten (after_setup w i block) i) blocks

      at : (b d : Bool) → OnStarted rest EachWorld
          → OnStarted (elim b [ true ↦ SessionSetupFailed i | false ↦ elim d [ true ↦ SessionSetupWaits i | false ↦ rest ] ]) EachWorld
      at true d rec = tt
      at false true rec = tt
      at false false rec = rec

  then-fits : (s : Start) (f : World → Start) → OnStarted s EachWorld → ((w : World) → EachWorld w → OnStarted (f w) EachWorld)
      → OnStarted (started_then s f) EachWorld
  then-fits (Started w) f h rec = rec w h
  then-fits (SetupFailed n) f h rec = tt
  then-fits (SessionSetupFailed n) f h rec = tt
  then-fits (SessionSetupWaits n) f h rec = tt

  first-fits : (n : ℕ) → EachWorld (first_world n)
  first-fits n = record { rows = no-rows; sessions = λ c. subst EachSession (sym (get_or-replicate (suc n) c fresh)) fresh-fits }

  start-fits : (spec : Spec) (w : World) → SpecFits tables spec → start spec ≡ Started w → EachWorld w
  start-fits spec w fits e =
      subst (λ s. OnStarted s EachWorld) e
      (then-fits (set_up spec) (λ v. session_setups 0 v spec.session_setups)
      (main-fits spec.sessions 0 (first_world spec.sessions) spec.setups fits.setups (first-fits spec.sessions))
      (λ v h. own-fits 0 v spec.session_setups fits.session_setups h))

  step-fits : (steps : List Step) → All (λ (s : Step). All (Fits tables) s.statements) steps → (k : ℕ) → All (Fits tables) (get_or steps k no_step).statements
  step-fits [] h k = λ i d lt. absurd (omega arith)
  step-fits (s ∷ ss) h zero = All-head (λ (s : Step). All (Fits tables) s.statements) s ss h
  step-fits (s ∷ ss) h (suc k) = step-fits ss (All-tail (λ (s : Step). All (Fits tables) s.statements) s ss h) k

  line-fits : (steps : List Step) (w : World) (ks : List ℕ) → All (λ (s : Step). All (Fits tables) s.statements) steps → EachWorld w
      → EachWorld (send_all steps w ks)
  line-fits steps w [] fits h = h
  line-fits steps w (k ∷ ks) fits h = line-fits steps (send steps w k) ks fits (send-fits steps w k (step-fits steps fits k) h)

  -- ---- the same, each by its place in a list

  told-session : (s : Session) → EachSession s → SessionFits tables s
  told-session s h = record {
    overlay = each-all (λ (e : RowPlace × Option Tuple). LeftFits tables e.0 e.1) (entries s.overlay) h.overlay;
    rest = each-all (TaskFits tables) s.rest h.rest;
  }

  read-session : (s : Session) → SessionFits tables s → EachSession s
  read-session s h = record {
    overlay = all-each (λ (e : RowPlace × Option Tuple). LeftFits tables e.0 e.1) (entries s.overlay) h.overlay;
    rest = all-each (TaskFits tables) s.rest h.rest;
  }

  told-world : (w : World) → EachWorld w → WorldFits tables w
  told-world w h = record { rows = each-all (EntryFits tables) (entries w.rows) h.rows; sessions = λ c. told-session (session_at w c) (h.sessions c) }

  read-world : (w : World) → WorldFits tables w → EachWorld w
  read-world w h = record { rows = all-each (EntryFits tables) (entries w.rows) h.rows; sessions = λ c. read-session (session_at w c) (h.sessions c) }

  see-fit : (s : Session) (rows : Rows') (ts : List Task) → EachSession s → EachFits tables rows → Each (TaskFits tables) ts → SeeFit tables s rows ts
  see-fit s rows [] h all fits = tt
  see-fit s rows (Ask n r m ∷ ts) h all fits = see-fit (taking s r m) rows ts (record { overlay = h.overlay; rest = h.rest }) all fits.1
  see-fit s rows (Do st ∷ ts) h all fits = (
    each-all (EntryFits tables) (entries (lay s.overlay rows)) (lay-fits tables s.overlay rows h.overlay all),
    at (perform s rows st) (perform_by-fits s.status (kind st) s rows st fits.0 h all) (λ s2 rows2 h2 all2. see-fit s2 rows2 ts h2 all2 fits.1),
  )
    where
      at : (p : Performed) → PerformedFits p → ((s2 : Session) (rows2 : Rows') → EachSession s2 → EachFits tables rows2 → SeeFit tables s2 rows2 ts)
          → let T : Type 0 = elim p [ Goes s2 rows2 ↦ SeeFit tables s2 rows2 ts | Fails f ↦ ⊤ ] in T
      at (Goes s2 rows2) d rec = rec s2 rows2 d.0 d.1
      at (Fails f) d rec = tt

pub going-keeps : (tables : List Table) (w : World) (i : ℕ) (s : Session) (ts : List Task) → WorldFits tables w → SessionFits tables s
    → All (TaskFits tables) ts
    → SeeFit tables s w.rows ts × WorldFits tables (goes w i s ts)
going-keeps tables w i s ts h own fits =
    let world = read-world tables w h in
    let session = read-session tables s own in
    let tasks = all-each (TaskFits tables) ts fits in
    (see-fit tables s w.rows ts session world.rows tasks, told-world tables (goes w i s ts) (goes-fits tables w i s ts world session tasks))

pub worlds-fit : (tables : List Table) (spec : Spec) (w : World) (ks : List ℕ) → SpecFits tables spec → start spec ≡ Started w
    → WorldFits tables (send_all spec.steps w ks)
worlds-fit tables spec w ks fits e = told-world tables (send_all spec.steps w ks)
    (line-fits tables spec.steps w ks fits.steps (start-fits tables spec w fits e))

-- in every world of a line of a spec whose statements fit the tables, the rows that a session sees fit
pub rows-seen : (tables : List Table) (spec : Spec) (w : World) (ks : List ℕ) (c : ℕ) → SpecFits tables spec → start spec ≡ Started w
    → RowsFit tables (seen_by (send_all spec.steps w ks) c)
rows-seen tables spec w ks c fits e =
    let h = line-fits tables spec.steps w ks fits.steps (start-fits tables spec w fits e) in
    let v = send_all spec.steps w ks in
    each-all (EntryFits tables) (entries (seen_by v c)) (lay-fits tables (session_at v c).overlay v.rows (h.sessions c).overlay h.rows)
