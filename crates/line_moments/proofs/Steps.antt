-- Each moment of a line is of a step of its session.
use Rattle.std.specs.List.{All}
use Rattle.std.proofs.Common.{◌≡◌, ◌≢◌, refl, sym, ap, ◌∙◌, subst, ℕ, zero, suc, ◌<◌, Bool, true, false, ◌||◌, ◌==◌, List, [], ◌∷◌, ◌++◌, length, get_or}
use Rattle.std.proofs.Common.{Option}
use Rattle.std.proofs.Common.{Some, None, ⊎_elim, arith, eqb-true, eq-eqb, get_or-set_same, get_or-set_other}
use Rattle.std.proofs.lemmas.Bool.{or_cases, or_left, or_right}
use Rattle.lock_queues.specs.declared.wait.Wait.{Wait}
use Rattle.lock_queues.specs.Locks.{Spot, next_grant, waits_now}
use Rattle.std.proofs.lemmas.List.Folds.{list_any-append}
use Rattle.lock_modes.specs.Rows.{Rows'}
use Rattle.row_tables.specs.Overlay.{lay}
use Rattle.statement_evaluation.specs.Effect.{Effect, Gives, Faults, effect}
use Rattle.bound_specs.specs.Spec.{Step, no_step}
use Rattle.bound_statements.specs.declared.statement.Bound.{Bound}
use Rattle.events.specs.declared.event.Event.{Event}
use Rattle.events.specs.declared.event.Event.TheVariants.{Sent, Row as RowEvent, Rows, Inserted, Updated, Deleted, Began, Committed, RolledBack}
use Rattle.events.specs.declared.event.Event.TheVariants.{Locked, Set}
use Rattle.events.specs.declared.event.Event.TheVariants.{Warned, Failed, Waiting, Resumed, Done, NotSent}
use Rattle.events.specs.declared.event.Fault.{Fault}
use Rattle.events.specs.declared.event.Fault.TheVariants.{Aborted}
use Rattle.events.specs.declared.event.Warning.TheVariants.{InBlock as AlreadyInBlock, NoBlock}
use Rattle.machine_model.specs.declared.reply.Reply.{Reply}
use Rattle.machine_model.specs.declared.reply.Reply.TheVariants.{Had, Waits, Refused}
use Rattle.machine_model.specs.declared.status.Status.{Status}
use Rattle.machine_model.specs.declared.status.Status.TheVariants.{Outside, InBlock, Broken}
use Rattle.machine_model.specs.Events.{is_effect}
use Rattle.machine_model.specs.Outcome.{IsOwnStep}
use Rattle.machine_model.specs.Session.{Session, Task, Ask, Do, Performed, Goes, Fails, Kind, Begins, Commits, RollsBack, Works, kind, perform, perform_by}
use Rattle.machine_model.specs.Session.{worked, note}
use Rattle.machine_model.specs.Session.{tasks_of}
use Rattle.machine_model.specs.Go.{Scene, Run, go, taking, is_broken, reply_in, finished_by, stopped, failed, held_up}
use Rattle.machine_model.specs.World.{World, fresh, session_at, look_of, scene_of, goes, granted, settle_for, settle, left_to_do, send, send_all}
use Rattle.machine_model.specs.Sound.{Steady, Sound}
use Rattle.machine_model.proofs.Basics.{cases-eq}
use Rattle.machine_model.proofs.Telling.{AllEffects, TellsEffects, effect-tells}
use Rattle.machine_model.proofs.Kept.{Pending}
use Rattle.machine_model.proofs.Settles.{Grant, Entering, next-grant, entering-granted, granted-steady, entering, goes-steady, steady-of, send-sound, run}
use Rattle.machine_model.proofs.Settles.{session-there, session-other}
use Rattle.machine_model.proofs.Counts.{send-fitting}
use Rattle.lock_queues.specs.Reasons.{Among}
use Rattle.line_moments.specs.Moments.{Sends, GoesOn, Skips, Going, behind_by, settle_goings, goings, line_goings, sent_step, last_sent}
use Rattle.line_moments.specs.Moments.{holding, without, KnowsSteps, IsOfStep}
use Rattle.lock_queues.proofs.Edges.{among-parts}

-- ---- the step that was sent last

pub last-append : (x : Option ℕ) (es fs : List Event) → last_sent x (es ++ fs) ≡ last_sent (last_sent x es) fs
last-append x [] fs = refl
last-append x (e ∷ es) fs = last-append _ es fs

-- what is no step leaves it
pub last-push : (t : List Event) (e : Event) → sent_step e ≡ None → last_sent None (t ++ e ∷ []) ≡ last_sent None t
last-push t e is =
    last-append None t (e ∷ [])
    ∙ ap (λ o. let x : Option ℕ = elim o [ None ↦ last_sent None t | Some n ↦ Some n ] in x) is

last-fault : (t : List Event) (f : Fault) → last_sent None (t ++ Failed f ∷ Done ∷ []) ≡ last_sent None t
last-fault t f = last-append None t (Failed f ∷ Done ∷ [])

effect-no-step : (e : Event) → is_effect e ≡ true → sent_step e ≡ None
effect-no-step (Sent k) d = absurd (let x : false ≡ true = d in cc)
effect-no-step (RowEvent r) d = refl
effect-no-step (Rows k) d = refl
effect-no-step (Inserted k) d = refl
effect-no-step (Updated k) d = refl
effect-no-step (Deleted k) d = refl
effect-no-step Began d = refl
effect-no-step Committed d = refl
effect-no-step RolledBack d = refl
effect-no-step Locked d = refl
effect-no-step Set d = refl
effect-no-step (Warned w) d = refl
effect-no-step (Failed f) d = refl
effect-no-step Waiting d = refl
effect-no-step Resumed d = refl
effect-no-step Done d = refl
effect-no-step (NotSent k) d = refl

last-effects : (x : Option ℕ) (es : List Event) → AllEffects es → last_sent x es ≡ x
last-effects x [] all = refl
last-effects x (e ∷ es) all =
    ap (λ o. last_sent (let y : Option ℕ = elim o [ None ↦ x | Some n ↦ Some n ] in y) es) (effect-no-step e all.0) ∙ last-effects x es all.1

abbrev LastAfter : List Event → Performed → Type 0
LastAfter t (Goes s rows) = last_sent None s.transcript ≡ last_sent None t
LastAfter t (Fails f) = Unit {0}

worked-last : (s : Session) (rows : Rows') (f : Effect) → TellsEffects f → LastAfter s.transcript (worked s rows f)
worked-last s rows (Gives events writes) d = last-append None s.transcript events ∙ last-effects (last_sent None s.transcript) events d
worked-last s rows (Faults f) d = tt

two-last : (t : List Event) (d e : Event) → sent_step d ≡ None → sent_step e ≡ None → last_sent None ((t ++ d ∷ []) ++ e ∷ []) ≡ last_sent None t
two-last t d e p q = last-push (t ++ d ∷ []) e q ∙ last-push t d p

perform_by-last : (b : Status) (k : Kind) (s : Session) (rows : Rows') (st : Bound) → LastAfter s.transcript (perform_by b k s rows st)
perform_by-last Outside (Begins level) s rows st = last-push s.transcript Began refl
perform_by-last (InBlock of) (Begins level) s rows st = two-last s.transcript (Warned AlreadyInBlock) Began refl refl
perform_by-last Broken (Begins level) s rows st = tt
perform_by-last Outside Commits s rows st = two-last s.transcript (Warned NoBlock) Committed refl refl
perform_by-last (InBlock of) Commits s rows st = last-push s.transcript Committed refl
perform_by-last Broken Commits s rows st = last-push s.transcript RolledBack refl
perform_by-last Outside RollsBack s rows st = two-last s.transcript (Warned NoBlock) RolledBack refl refl
perform_by-last (InBlock of) RollsBack s rows st = last-push s.transcript RolledBack refl
perform_by-last Broken RollsBack s rows st = last-push s.transcript RolledBack refl
perform_by-last Outside Works s rows st = worked-last s rows (effect st (lay s.overlay rows)) (effect-tells st (lay s.overlay rows))
perform_by-last (InBlock of) Works s rows st = worked-last s rows (effect st (lay s.overlay rows)) (effect-tells st (lay s.overlay rows))
perform_by-last Broken Works s rows st = tt

finished-last : (b : Status) (s : Session) (rows : Rows') → last_sent None (finished_by b s rows).session.transcript ≡ last_sent None s.transcript
finished-last Outside s rows = last-push s.transcript Done refl
finished-last (InBlock of) s rows = last-push s.transcript Done refl
finished-last Broken s rows = last-push s.transcript Done refl

-- going notes no step
pub go-last : (e : Scene) (i : ℕ) (s : Session) (rows : Rows') (ts : List Task)
    → last_sent None (go e i s rows ts).session.transcript ≡ last_sent None s.transcript
go-last e i s rows [] = finished-last s.status s rows
go-last e i s rows (Ask nowait r m ∷ ts) = at (is_broken s.status) (reply_in e i s nowait r m) (go-last e i (taking s r m) rows ts)
  where
    at : (b : Bool) (a : Reply) → last_sent None (go e i (taking s r m) rows ts).session.transcript ≡ last_sent None s.transcript
        → (let x : Run = elim b [
          | true ↦ stopped e (failed s rows Aborted)
          | false ↦ elim a [ Had ↦ go e i (taking s r m) rows ts | Waits ↦ held_up e i s rows r m ts | Refused f ↦ stopped e (failed s rows f) ]
        ] in last_sent None x.session.transcript ≡ last_sent None s.transcript)
    at true a rec = last-fault s.transcript Aborted
    at false Had rec = rec
    at false Waits rec = last-push s.transcript Waiting refl
    at false (Refused f) rec = last-fault s.transcript f
go-last e i s rows (Do st ∷ ts) = at (perform s rows st) (perform_by-last s.status (kind st) s rows st) (λ s2 rows2. go-last e i s2 rows2 ts)
  where
    at : (p : Performed) → LastAfter s.transcript p
        → ((s2 : Session) (rows2 : Rows') → last_sent None (go e i s2 rows2 ts).session.transcript ≡ last_sent None s2.transcript)
        → (let x : Run = elim p [ Goes s2 rows2 ↦ go e i s2 rows2 ts | Fails f ↦ stopped e (failed s rows f) ] in
        last_sent None x.session.transcript ≡ last_sent None s.transcript)
    at (Goes s2 rows2) is rec = rec s2 rows2 ∙ is
    at (Fails f) is rec = last-fault s.transcript f

-- ---- a world

-- the session's last step is known, and is one of its own
abbrev HasOwn : List Step → ℕ → List Event → Type 0
HasOwn steps c t = (k : ℕ) × (last_sent None t ≡ Some k) × IsOwnStep steps c k

own-same : (steps : List Step) (c : ℕ) (t u : List Event) → last_sent None u ≡ last_sent None t → HasOwn steps c t → HasOwn steps c u
own-same steps c t u is x = (x.0, is ∙ x.1, x.2)

-- who waits behind a session that goes waited before, or is that session
waits-before : (w : World) (i c : ℕ) (s : Session) (ts : List Task) → Entering w i s ts → c ≢ i → waits_now (goes w i s ts).waits c ≡ true
    → waits_now w.waits c ≡ true
waits-before w i c s ts en ne h = ⊎_elim same more (run w i s ts en).ends
  where
    r : Run
    r = go (scene_of w) i s w.rows ts

    same : (go (scene_of w) i s w.rows ts).waits ≡ w.waits → waits_now w.waits c ≡ true
    same e = subst (λ ws. waits_now ws c ≡ true) e h

    more : Pending (scene_of w) i (length ts) (go (scene_of w) i s w.rows ts) → waits_now w.waits c ≡ true
    more p =
        let v : Wait = record { session = i; resource = p.resource; mode = p.mode } in
        let k : (waits_now w.waits c || waits_now (v ∷ []) c) ≡ true =
        sym (list_any-append (λ (x : Wait). x.session == c) w.waits (v ∷ [])) ∙ subst (λ ws. waits_now ws c ≡ true) p.waits h in
        ⊎_elim (λ x. x)
        (λ x. absurd (⊎_elim (λ y. ne (sym (eqb-true i c y))) (λ y. let z : false ≡ true = y in cc) (or_cases (i == c) false x)))
        (or_cases (waits_now w.waits c) _ k)

goes-knows : (steps : List Step) (w : World) (i : ℕ) (s : Session) (ts : List Task) → Entering w i s ts → HasOwn steps i s.transcript
    → ((c : ℕ) → c ≢ i → waits_now w.waits c ≡ true → HasOwn steps c (session_at w c).transcript) → KnowsSteps steps (goes w i s ts)
goes-knows steps w i s ts en own others c h = ⊎_elim there other (cases-eq c i)
  where
    there : c ≡ i → HasOwn steps c (session_at (goes w i s ts) c).transcript
    there k =
        subst (λ d. HasOwn steps d (session_at (goes w i s ts) d).transcript) (sym k)
        (subst (λ (x : Session). HasOwn steps i x.transcript) (sym (session-there w i (go (scene_of w) i s w.rows ts) en.known))
        (own-same steps i s.transcript (go (scene_of w) i s w.rows ts).session.transcript (go-last (scene_of w) i s w.rows ts) own))

    other : c ≢ i → HasOwn steps c (session_at (goes w i s ts) c).transcript
    other ne =
        subst (λ (x : Session). HasOwn steps c x.transcript) (sym (session-other w i c (go (scene_of w) i s w.rows ts) ne))
        (others c ne (waits-before w i c s ts en ne h))

-- who has a spot waits
pub spot-waits : (w : World) (spot : Spot) → Grant (length w.sessions) (look_of w) w.waits spot → waits_now w.waits spot.wait.session ≡ true
spot-waits w spot g =
    subst (λ ws. waits_now ws spot.wait.session ≡ true) (sym g.splits)
    (list_any-append (λ (x : Wait). x.session == spot.wait.session) spot.before (spot.wait ∷ spot.after)
    ∙ or_right (waits_now spot.before spot.wait.session) _ (or_left _ _ (eq-eqb spot.wait.session spot.wait.session refl)))

-- who waits without the spot waits
rest-waits : (w : World) (spot : Spot) (c : ℕ) → Grant (length w.sessions) (look_of w) w.waits spot → waits_now (spot.before ++ spot.after) c ≡ true
    → waits_now w.waits c ≡ true
rest-waits w spot c g h =
    subst (λ ws. waits_now ws c ≡ true) (sym g.splits)
    (list_any-append (λ (x : Wait). x.session == c) spot.before (spot.wait ∷ spot.after)
    ∙ ⊎_elim (λ k. or_left _ _ k) (λ k. or_right (waits_now spot.before c) _ (or_right (spot.wait.session == c) _ k))
    (or_cases (waits_now spot.before c) _ (sym (list_any-append (λ (x : Wait). x.session == c) spot.before spot.after) ∙ h)))

granted-knows : (steps : List Step) (w : World) (spot : Spot) → Steady w → Grant (length w.sessions) (look_of w) w.waits spot → KnowsSteps steps w
    → KnowsSteps steps (granted w spot)
granted-knows steps w spot st g knows =
    let i = spot.wait.session in
    goes-knows steps (without w spot) i (note (holding w spot) Resumed) (session_at w i).rest (entering-granted w spot st g)
    (own-same steps i (session_at w i).transcript ((session_at w i).transcript ++ Resumed ∷ []) (last-push (session_at w i).transcript Resumed refl)
    (knows i (spot-waits w spot g)))
    (λ c ne h. knows c (rest-waits w spot c g h))

settle-steps : (steps : List Step) (n : ℕ) (w : World) → Steady w → KnowsSteps steps w
    → ((g : Going) → Among g (settle_goings n w) → IsOfStep steps g) × KnowsSteps steps (settle_for n w)
settle-steps steps zero w st knows = ((λ g m. absurd m), knows)
settle-steps steps (suc n) w st knows = at (next_grant (length w.sessions) (look_of w) w.waits) refl
    (λ spot h. settle-steps steps n (granted w spot) (granted-steady w spot st h) (granted-knows steps w spot st h knows))
  where
    at : (o : Option Spot) → next_grant (length w.sessions) (look_of w) w.waits ≡ o
        → ((spot : Spot) → Grant (length w.sessions) (look_of w) w.waits spot
        → ((g : Going) → Among g (settle_goings n (granted w spot)) → IsOfStep steps g) × KnowsSteps steps (settle_for n (granted w spot)))
        → ((g : Going) → Among g (elim o [ None ↦ [] | Some spot ↦ record { world = w; cause = GoesOn spot } ∷ settle_goings n (granted w spot) ])
        → IsOfStep steps g) × KnowsSteps steps (elim o [ None ↦ w | Some spot ↦ settle_for n (granted w spot) ])
    at None is rec = ((λ g m. absurd m), knows)
    at (Some spot) is rec =
        let h = next-grant (length w.sessions) (look_of w) w.waits spot is in (
          (λ g m. ⊎_elim
              (λ e. subst (IsOfStep steps) (sym e) (knows spot.wait.session (spot-waits w spot h)))
              (λ k. (rec spot h).0 g k) m),
          (rec spot h).1,
        )

-- a step that is not sent is not the last that was sent
pub skipped-last : (steps : List Step) (w : World) (k : ℕ) → (get_or steps k no_step).session < length w.sessions → (c : ℕ)
    → last_sent None (session_at (behind_by steps w (Skips k)) c).transcript ≡ last_sent None (session_at w c).transcript
skipped-last steps w k lt c =
    let i = (get_or steps k no_step).session in
    let s = note (session_at w i) (NotSent k) in
    ⊎_elim
    (λ e. subst (λ d. last_sent None (session_at (behind_by steps w (Skips k)) d).transcript ≡ last_sent None (session_at w d).transcript) (sym e)
    (ap (λ (x : Session). last_sent None x.transcript) (get_or-set_same w.sessions i s fresh lt) ∙ last-push (session_at w i).transcript (NotSent k) refl))
    (λ ne. ap (λ (x : Session). last_sent None x.transcript) (get_or-set_other w.sessions i c s fresh ne)) (cases-eq c i)

send-steps : (steps : List Step) (w : World) (k : ℕ) → k < length steps → Sound w → (get_or steps k no_step).session < length w.sessions
    → KnowsSteps steps w → ((g : Going) → Among g (goings steps w k) → IsOfStep steps g) × KnowsSteps steps (send steps w k)
send-steps steps w k less sound lt knows = at (waits_now w.waits (get_or steps k no_step).session) refl
  where
    at : (b : Bool) → waits_now w.waits (get_or steps k no_step).session ≡ b
        → ((g : Going) → Among g (elim b [
          | true ↦ record { world = w; cause = Skips k } ∷ []
          | false ↦ record { world = w; cause = Sends k } ∷ settle_goings (left_to_do (behind_by steps w (Sends k))) (behind_by steps w (Sends k))
        ]) → IsOfStep steps g) × KnowsSteps steps (elim b [ true ↦ behind_by steps w (Skips k) | false ↦ settle (behind_by steps w (Sends k)) ])
    at true is = (
      (λ g m. ⊎_elim (λ e. subst (IsOfStep steps) (sym e) (k, refl, (less, refl))) (λ x. absurd x) m),
      (λ c h. own-same steps c (session_at w c).transcript (session_at (behind_by steps w (Skips k)) c).transcript (skipped-last steps w k lt c) (knows c h)),
    )
    at false is =
        let j = (get_or steps k no_step).session in
        let ss = (get_or steps k no_step).statements in
        let s = note (session_at w j) (Sent k) in
        let en = entering w j s (session_at w j).status ss (steady-of w sound) lt is refl refl in
        let v = behind_by steps w (Sends k) in
        let rest = settle-steps steps (left_to_do v) v (goes-steady w j s (tasks_of (session_at w j).status ss) en)
        (goes-knows steps w j s (tasks_of (session_at w j).status ss) en (k, last-append None (session_at w j).transcript (Sent k ∷ []), (less, refl)) (λ c ne h. knows c h)) in (
          (λ g m. ⊎_elim (λ e. subst (IsOfStep steps) (sym e) (k, refl, (less, refl))) (λ x. rest.0 g x) m),
          rest.1,
        )

pub line-steps : (steps : List Step) (w : World) (ks : List ℕ) → Sound w → ((k : ℕ) → (get_or steps k no_step).session < length w.sessions)
    → All (λ k. k < length steps) ks → KnowsSteps steps w
    → ((g : Going) → Among g (line_goings steps w ks) → IsOfStep steps g) × KnowsSteps steps (send_all steps w ks)
line-steps steps w [] sound fit known knows = ((λ g m. absurd m), knows)
line-steps steps w (k ∷ ks) sound fit known knows =
    let one = send-steps steps w k (known 0 0 (omega arith)) sound (fit k) knows in
    let rest = line-steps steps (send steps w k) ks (send-sound steps w k sound (fit k)) (send-fitting steps w k fit) (λ i d lt. known (suc i) d (omega arith))
    one.1 in (
      (λ g m. ⊎_elim (λ h. one.0 g h) (λ h. rest.0 g h) (among-parts g (goings steps w k) (line_goings steps (send steps w k) ks) m)),
      rest.1,
    )
