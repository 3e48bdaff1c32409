-- What each session is told in its moments is what its transcript grows by.
use Rattle.std.proofs.Common.{◌≡◌, ◌≢◌, refl, sym, ap, ◌∙◌, ℕ, zero, suc, ◌<◌, Bool, true, false, cond, ◌==◌, List, [], ◌∷◌, ◌++◌, length, map, set}
use Rattle.std.proofs.Common.{get_or, Option, Some, None, ⊎_elim, append_assoc, append-nil, eqb-true, eq-eqb}
use Rattle.lock_queues.specs.Locks.{Spot, next_grant, waits_now}
use Rattle.lock_modes.specs.Rows.{Rows'}
use Rattle.row_tables.specs.Overlay.{lay, written}
use Rattle.statement_evaluation.specs.Effect.{Effect, Gives, Faults, effect}
use Rattle.bound_specs.specs.Spec.{Step, no_step}
use Rattle.bound_statements.specs.declared.statement.Bound.{Bound}
use Rattle.events.specs.declared.event.Event.{Event}
use Rattle.events.specs.declared.event.Event.TheVariants.{Sent, Began, Committed, RolledBack, Warned, Failed, Waiting, Resumed, Done, NotSent}
use Rattle.events.specs.declared.event.Fault.{Fault}
use Rattle.events.specs.declared.event.Fault.TheVariants.{Aborted}
use Rattle.events.specs.declared.event.Warning.TheVariants.{InBlock as AlreadyInBlock, NoBlock}
use Rattle.machine_model.specs.declared.reply.Reply.{Reply}
use Rattle.machine_model.specs.declared.reply.Reply.TheVariants.{Had, Waits, Refused}
use Rattle.machine_model.specs.declared.status.Status.{Status}
use Rattle.machine_model.specs.declared.status.Status.TheVariants.{Outside, InBlock, Broken}
use Rattle.machine_model.specs.Session.{Session, Task, Ask, Do, Performed, Goes, Fails, Kind, Begins, Commits, RollsBack, Works, kind, perform, perform_by}
use Rattle.machine_model.specs.Session.{worked, note, tasks_of, ended, released}
use Rattle.machine_model.specs.Go.{Scene, Run, go, taking, is_broken, reply_in, finished_by, stopped, failed, held_up, broken_off, waiting_with}
use Rattle.std.proofs.Common.{take, ◌≤◌, arith, get_or-set_same, get_or-set_other}
use Rattle.machine_model.specs.World.{fresh, outcome_of}
use Rattle.machine_model.specs.Sound.{Steady, Sound}
use Rattle.machine_model.specs.Start.{Started, start}
use Rattle.bound_specs.specs.Spec.{Spec, IsBound}
use Rattle.line_moments.specs.declared.moment.Moment.{Moment}
use Rattle.line_moments.specs.Moments.{Sends, GoesOn, Skips, Going, behind_by, settle_goings, goings, line_goings, moments, line_moments}
use Rattle.line_moments.specs.Moments.{moment_of, session_by, events_by, told_only, holding, without, told_to, told_by}
use Rattle.machine_model.proofs.Basics.{known, cases-eq}
use Rattle.machine_model.proofs.Settles.{Grant, next-grant, entering-granted, granted-steady, entering, goes-steady, steady-of, send-sound}
use Rattle.machine_model.proofs.Counts.{send-fitting, bound-fits, line-count}
use Rattle.machine_model.proofs.Starts.{start-sound, start-count}
use Rattle.machine_model.proofs.Owned.{start-silent}
use Rattle.machine_model.specs.World.{World, session_at, look_of, scene_of, goes, granted, settle_for, settle, left_to_do, send, send_all}

-- ---- a session that was told these events before

abbrev pub before : List Event → Session → Session
before t s = record s { transcript = t ++ s.transcript }

abbrev pub before_done : List Event → Performed → Performed
before_done t (Goes s rows) = Goes (before t s) rows
before_done t (Fails f) = Fails f

abbrev pub before_run : List Event → Run → Run
before_run t r = record { session = before t r.session; rows = r.rows; waits = r.waits }

push : (t u : List Event) (e : Event) → (t ++ u) ++ e ∷ [] ≡ t ++ (u ++ e ∷ [])
push t u e = append_assoc t u (e ∷ [])

push2 : (t u : List Event) (d e : Event) → ((t ++ u) ++ d ∷ []) ++ e ∷ [] ≡ t ++ ((u ++ d ∷ []) ++ e ∷ [])
push2 t u d e = ap (λ x. x ++ e ∷ []) (push t u d) ∙ push t (u ++ d ∷ []) e

worked-before : (t : List Event) (s : Session) (rows : Rows') (f : Effect) → worked (before t s) rows f ≡ before_done t (worked s rows f)
worked-before t s rows (Gives events writes) =
    ap (λ x. Goes (record s { overlay = written writes s.overlay; transcript = x }) rows) (append_assoc t s.transcript events)
worked-before t s rows (Faults f) = refl

perform_by-before : (t : List Event) (b : Status) (k : Kind) (s : Session) (rows : Rows') (st : Bound)
    → perform_by b k (before t s) rows st ≡ before_done t (perform_by b k s rows st)
perform_by-before t Outside (Begins level) s rows st = ap (λ x. Goes (record s { status = InBlock level; transcript = x }) rows) (push t s.transcript Began)
perform_by-before t (InBlock of) (Begins level) s rows st = ap (λ x. Goes (record s { transcript = x }) rows) (push2 t s.transcript (Warned AlreadyInBlock) Began)
perform_by-before t Broken (Begins level) s rows st = refl
perform_by-before t Outside Commits s rows st =
    ap (λ x. Goes (record (ended s) { transcript = x }) (lay s.overlay rows)) (push2 t s.transcript (Warned NoBlock) Committed)
perform_by-before t (InBlock of) Commits s rows st =
    ap (λ x. Goes (record (ended s) { transcript = x }) (lay s.overlay rows)) (push t s.transcript Committed)
perform_by-before t Broken Commits s rows st =
    ap (λ x. Goes (record (ended s) { transcript = x }) rows) (push t s.transcript RolledBack)
perform_by-before t Outside RollsBack s rows st =
    ap (λ x. Goes (record (ended s) { transcript = x }) rows) (push2 t s.transcript (Warned NoBlock) RolledBack)
perform_by-before t (InBlock of) RollsBack s rows st =
    ap (λ x. Goes (record (ended s) { transcript = x }) rows) (push t s.transcript RolledBack)
perform_by-before t Broken RollsBack s rows st =
    ap (λ x. Goes (record (ended s) { transcript = x }) rows) (push t s.transcript RolledBack)
perform_by-before t Outside Works s rows st = worked-before t s rows (effect st (lay s.overlay rows))
perform_by-before t (InBlock of) Works s rows st = worked-before t s rows (effect st (lay s.overlay rows))
perform_by-before t Broken Works s rows st = refl

failed-before : (t : List Event) (e : Scene) (s : Session) (rows : Rows') (f : Fault)
    → stopped e (failed (before t s) rows f) ≡ before_run t (stopped e (failed s rows f))
failed-before t e s rows f =
    ap (λ x. let r : Run = stopped e (record { session = record (broken_off s f) { transcript = x }; rows = rows }) in r)
    (append_assoc t s.transcript (Failed f ∷ Done ∷ []))

finished-before : (t : List Event) (e : Scene) (b : Status) (s : Session) (rows : Rows')
    → stopped e (finished_by b (before t s) rows) ≡ before_run t (stopped e (finished_by b s rows))
finished-before t e Outside s rows =
    ap (λ x. let r : Run = stopped e (record { session = record (released s) { transcript = x }; rows = lay s.overlay rows }) in r)
    (push t s.transcript Done)
finished-before t e (InBlock of) s rows =
    ap (λ x. let r : Run = stopped e (record { session = record s { transcript = x }; rows = rows }) in r) (push t s.transcript Done)
finished-before t e Broken s rows =
    ap (λ x. let r : Run = stopped e (record { session = record s { transcript = x }; rows = rows }) in r) (push t s.transcript Done)

pub go-before : (t : List Event) (e : Scene) (i : ℕ) (s : Session) (rows : Rows') (ts : List Task)
    → go e i (before t s) rows ts ≡ before_run t (go e i s rows ts)
go-before t e i s rows [] = finished-before t e s.status s rows
go-before t e i s rows (Ask nowait r m ∷ ts) = at (is_broken s.status) (reply_in e i s nowait r m) (go-before t e i (taking s r m) rows ts)
  where
    at : (b : Bool) (a : Reply) → go e i (before t (taking s r m)) rows ts ≡ before_run t (go e i (taking s r m) rows ts)
        → (let x : Run = elim b [
          | true ↦ stopped e (failed (before t s) rows Aborted)
          | false ↦ elim a [
            | Had ↦ go e i (taking (before t s) r m) rows ts
            | Waits ↦ held_up e i (before t s) rows r m ts
            | Refused f ↦ stopped e (failed (before t s) rows f)
          ]
        ] in x)
        ≡ before_run t (elim b [
          | true ↦ stopped e (failed s rows Aborted)
          | false ↦ elim a [ Had ↦ go e i (taking s r m) rows ts | Waits ↦ held_up e i s rows r m ts | Refused f ↦ stopped e (failed s rows f) ]
        ])
    at true a rec = failed-before t e s rows Aborted
    at false Had rec = rec
    at false Waits rec =
        ap (λ x. let y : Run = record { session = record s { rest = ts; transcript = x }; rows = rows; waits = waiting_with e i r m } in y)
        (push t s.transcript Waiting)
    at false (Refused f) rec = failed-before t e s rows f
go-before t e i s rows (Do st ∷ ts) = at (perform (before t s) rows st) (perform s rows st) (perform_by-before t s.status (kind st) s rows st)
    (λ s2 rows2. go-before t e i s2 rows2 ts)
  where
    at : (q p : Performed) → q ≡ before_done t p
        → ((s2 : Session) (rows2 : Rows') → go e i (before t s2) rows2 ts ≡ before_run t (go e i s2 rows2 ts))
        → (let x : Run = elim q [ Goes s2 rows2 ↦ go e i s2 rows2 ts | Fails f ↦ stopped e (failed (before t s) rows f) ] in x)
        ≡ before_run t (elim p [ Goes s2 rows2 ↦ go e i s2 rows2 ts | Fails f ↦ stopped e (failed s rows f) ])
    at q (Goes s2 rows2) is rec =
        ap (λ z. let x : Run = elim z [ Goes s2 rows2 ↦ go e i s2 rows2 ts | Fails f ↦ stopped e (failed (before t s) rows f) ] in x) is ∙ rec s2 rows2
    at q (Fails f) is rec =
        ap (λ z. let x : Run = elim z [ Goes s2 rows2 ↦ go e i s2 rows2 ts | Fails f ↦ stopped e (failed (before t s) rows f) ] in x) is
        ∙ failed-before t e s rows f

-- ---- a world

-- what each session was told, behind what it was told before
abbrev Grows : World → World → (ℕ → List Event) → Type 0
Grows w v told = (c : ℕ) → (session_at v c).transcript ≡ (session_at w c).transcript ++ told c

abbrev its_part : ℕ → List Event → ℕ → List Event
its_part i es c = cond (i == c) es []

-- a session takes its place, told more
pub put-grows : (w : World) (i : ℕ) (s : Session) (es : List Event) → i < length w.sessions → s.transcript ≡ (session_at w i).transcript ++ es
    → (c : ℕ) → (get_or (set w.sessions i s) c fresh).transcript ≡ (session_at w c).transcript ++ its_part i es c
put-grows w i s es lt is c = ⊎_elim there other (cases-eq c i)
  where
    there : c ≡ i → (get_or (set w.sessions i s) c fresh).transcript ≡ (session_at w c).transcript ++ its_part i es c
    there k =
        ap (λ d. (get_or (set w.sessions i s) d fresh).transcript) k ∙ ap (λ (x : Session). x.transcript) (get_or-set_same w.sessions i s fresh lt) ∙ is
        ∙ sym (ap (λ d. (session_at w d).transcript ++ es) k) ∙ sym (ap (λ b. (session_at w c).transcript ++ cond b es []) (eq-eqb i c (sym k)))

    other : c ≢ i → (get_or (set w.sessions i s) c fresh).transcript ≡ (session_at w c).transcript ++ its_part i es c
    other ne =
        let no_i : (i == c) ≡ false = ⊎_elim (λ h. absurd (ne (sym (eqb-true i c h)))) (λ h. h) (known (i == c)) in
        ap (λ (x : Session). x.transcript) (get_or-set_other w.sessions i c s fresh ne) ∙ sym (append-nil (session_at w c).transcript)
        ∙ sym (ap (λ b. (session_at w c).transcript ++ cond b es []) no_i)

-- a session goes
pub goes-grows : (w : World) (i : ℕ) (u : Session) (ts : List Task) → i < length w.sessions
    → Grows w (goes w i (before (session_at w i).transcript u) ts) (its_part i (go (scene_of w) i u w.rows ts).session.transcript)
goes-grows w i u ts lt =
    put-grows w i (go (scene_of w) i (before (session_at w i).transcript u) w.rows ts).session (go (scene_of w) i u w.rows ts).session.transcript lt
    (ap (λ (r : Run). r.session.transcript) (go-before (session_at w i).transcript (scene_of w) i u w.rows ts))

-- the moment of one going
pub granted-grows : (steps : List Step) (w : World) (spot : Spot) → spot.wait.session < length w.sessions
    → Grows w (granted w spot) (its_part spot.wait.session (events_by steps w (GoesOn spot)))
granted-grows steps w spot lt =
    goes-grows (without w spot) spot.wait.session (told_only (holding w spot) Resumed) (session_at w spot.wait.session).rest lt

then-grows : (steps : List Step) (w u v : World) (g : Going) (gs : List Going)
    → Grows w u (its_part (session_by steps g.cause) (events_by steps g.world g.cause)) → Grows u v (λ c. told_to c (map (moment_of steps) gs))
    → Grows w v (λ c. told_to c (map (moment_of steps) (g ∷ gs)))
then-grows steps w u v g gs a b c =
    let es = its_part (session_by steps g.cause) (events_by steps g.world g.cause) c in
    b c ∙ ap (λ x. x ++ told_to c (map (moment_of steps) gs)) (a c) ∙ append_assoc (session_at w c).transcript es (told_to c (map (moment_of steps) gs))

none-grows : (w : World) → Grows w w (λ c. [])
none-grows w c = sym (append-nil (session_at w c).transcript)

settle-grows : (steps : List Step) (n : ℕ) (w : World) → Steady w → Grows w (settle_for n w) (λ c. told_to c (map (moment_of steps) (settle_goings n w)))
settle-grows steps zero w st = none-grows w
settle-grows steps (suc n) w st = at (next_grant (length w.sessions) (look_of w) w.waits) refl
    (λ spot g. settle-grows steps n (granted w spot) (granted-steady w spot st g))
  where
    at : (o : Option Spot) → next_grant (length w.sessions) (look_of w) w.waits ≡ o
        → ((spot : Spot) → Grant (length w.sessions) (look_of w) w.waits spot
        → Grows (granted w spot) (settle_for n (granted w spot)) (λ c. told_to c (map (moment_of steps) (settle_goings n (granted w spot)))))
        → Grows w (elim o [ None ↦ w | Some spot ↦ settle_for n (granted w spot) ])
        (λ c. told_to c (map (moment_of steps)
        (elim o [ None ↦ [] | Some spot ↦ record { world = w; cause = GoesOn spot } ∷ settle_goings n (granted w spot) ])))
    at None is rec = none-grows w
    at (Some spot) is rec =
        let g = next-grant (length w.sessions) (look_of w) w.waits spot is in
        then-grows steps w (granted w spot) (settle_for n (granted w spot)) (record { world = w; cause = GoesOn spot }) (settle_goings n (granted w spot))
        (granted-grows steps w spot (entering-granted w spot st g).known) (rec spot g)

-- a step sent
send-grows : (steps : List Step) (w : World) (k : ℕ) → Sound w → (get_or steps k no_step).session < length w.sessions
    → Grows w (send steps w k) (λ c. told_to c (moments steps w k))
send-grows steps w k sound lt = at (waits_now w.waits i) refl
  where
    i : ℕ
    i = (get_or steps k no_step).session

    v : World
    v = behind_by steps w (Sends k)

    at : (b : Bool) → waits_now w.waits i ≡ b
        → Grows w (elim b [ true ↦ behind_by steps w (Skips k) | false ↦ settle (behind_by steps w (Sends k)) ])
        (λ c. told_to c (map (moment_of steps) (elim b [
          | true ↦ record { world = w; cause = Skips k } ∷ []
          | false ↦ record { world = w; cause = Sends k } ∷ settle_goings (left_to_do (behind_by steps w (Sends k))) (behind_by steps w (Sends k))
        ])))
    at true is =
        then-grows steps w (behind_by steps w (Skips k)) (behind_by steps w (Skips k)) (record { world = w; cause = Skips k }) []
        (put-grows w i (note (session_at w i) (NotSent k)) (NotSent k ∷ []) lt refl) (none-grows (behind_by steps w (Skips k)))
    at false is =
        let ss = (get_or steps k no_step).statements in
        then-grows steps w (behind_by steps w (Sends k)) (settle (behind_by steps w (Sends k))) (record { world = w; cause = Sends k })
        (settle_goings (left_to_do (behind_by steps w (Sends k))) (behind_by steps w (Sends k)))
        (goes-grows w i (told_only (session_at w i) (Sent k)) (tasks_of (session_at w i).status ss) lt)
        (settle-grows steps (left_to_do (behind_by steps w (Sends k))) (behind_by steps w (Sends k))
        (goes-steady w i (note (session_at w i) (Sent k)) (tasks_of (session_at w i).status ss) (entering w i (note (session_at w i) (Sent k)) (session_at w i).status ss (steady-of w sound) lt is refl refl)))

told-append : (steps : List Step) (c : ℕ) (gs hs : List Going) → told_to c (map (moment_of steps) (gs ++ hs))
    ≡ told_to c (map (moment_of steps) gs) ++ told_to c (map (moment_of steps) hs)
told-append steps c [] hs = refl
told-append steps c (g ∷ gs) hs =
    let es = its_part (session_by steps g.cause) (events_by steps g.world g.cause) c in
    ap (λ x. es ++ x) (told-append steps c gs hs)
    ∙ sym (append_assoc es (told_to c (map (moment_of steps) gs)) (told_to c (map (moment_of steps) hs)))

-- a line
pub line-grows : (steps : List Step) (w : World) (ks : List ℕ) → Sound w → ((k : ℕ) → (get_or steps k no_step).session < length w.sessions)
    → (c : ℕ) → (session_at (send_all steps w ks) c).transcript ≡ (session_at w c).transcript ++ told_to c (line_moments steps w ks)
line-grows steps w [] sound fit c = none-grows w c
line-grows steps w (k ∷ ks) sound fit c =
    let a = told_to c (moments steps w k) in
    let b = told_to c (line_moments steps (send steps w k) ks) in
    line-grows steps (send steps w k) ks (send-sound steps w k sound (fit k)) (send-fitting steps w k fit) c
    ∙ ap (λ x. x ++ b) (send-grows steps w k sound (fit k) c) ∙ append_assoc (session_at w c).transcript a b
    ∙ sym (ap (λ x. (session_at w c).transcript ++ x) (told-append steps c (goings steps w k) (line_goings steps (send steps w k) ks)))

-- ---- from the start of a spec

outcome-more : (n : ℕ) (ss : List Session) → n < length ss → map (λ (s : Session). s.transcript) (take (suc n) ss)
    ≡ map (λ (s : Session). s.transcript) (take n ss) ++ (get_or ss n fresh).transcript ∷ []
outcome-more n [] lt = absurd (omega (arith, lt))
outcome-more zero (s ∷ ss) lt = refl
outcome-more (suc n) (s ∷ ss) lt = ap (λ x. s.transcript ∷ x) (outcome-more n ss (omega (arith, lt)))

outcome-told : (n : ℕ) (w : World) (ms : List Moment) → n ≤ length w.sessions → ((c : ℕ) → (session_at w c).transcript ≡ told_to c ms)
    → outcome_of n w ≡ told_by n ms
outcome-told zero w ms le is = refl
outcome-told (suc n) w ms le is =
    outcome-more n w.sessions (omega (arith, le))
    ∙ (λ k. outcome-told n w ms (omega (arith, le)) is k ++ is n k ∷ [])

-- the outcome of a line of a spec is what its moments tell
pub spec-told : (spec : Spec) (w : World) (ks : List ℕ) → IsBound spec → start spec ≡ Started w
    → outcome_of spec.sessions (send_all spec.steps w ks) ≡ told_by spec.sessions (line_moments spec.steps w ks)
spec-told spec w ks bound e =
    let sound = start-sound spec w bound.session_setups e in
    let many = line-count spec.steps w ks ∙ start-count spec w bound.session_setups e in
    outcome-told spec.sessions (send_all spec.steps w ks) (line_moments spec.steps w ks) (omega (arith, many))
    (λ c. line-grows spec.steps w ks sound (bound-fits spec w bound e) c
    ∙ ap (λ x. x ++ told_to c (line_moments spec.steps w ks)) (start-silent spec w e c))
