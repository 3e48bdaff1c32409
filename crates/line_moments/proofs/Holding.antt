-- What each session holds, changed by what it got and let go, is what it holds then.
use Rattle.std.proofs.Common.{◌≡◌, ◌≢◌, refl, sym, ap, ◌∙◌, ℕ, zero, suc, ◌<◌, Bool, true, false, cond, ◌==◌, List, [], ◌∷◌, ◌++◌, length, map, set}
use Rattle.std.proofs.Common.{append_assoc}
use Rattle.std.proofs.Common.{get_or, Option, Some, None, ⊎_elim, eqb-true, eq-eqb, get_or-set_same, get_or-set_other}
use Rattle.finite_maps.specs.Map.{get, insert, empty, entries, same_list}
use Rattle.lock_modes.specs.declared.mode.Mode.{Mode}
use Rattle.lock_modes.specs.declared.resource.Resource.{Resource}
use Rattle.lock_modes.specs.Rows.{Rows'}
use Rattle.lock_queues.specs.Locks.{Spot, next_grant, waits_now, wanted}
use Rattle.row_tables.specs.Overlay.{lay}
use Rattle.statement_evaluation.specs.Effect.{Effect, Gives, Faults, effect}
use Rattle.bound_specs.specs.Spec.{Step, no_step}
use Rattle.bound_statements.specs.declared.statement.Bound.{Bound}
use Rattle.events.specs.declared.event.Event.TheVariants.{Sent, NotSent, Resumed}
use Rattle.events.specs.declared.event.Fault.TheVariants.{Aborted}
use Rattle.machine_model.specs.declared.reply.Reply.{Reply}
use Rattle.machine_model.specs.declared.reply.Reply.TheVariants.{Had as IsHad, Waits, Refused}
use Rattle.machine_model.specs.declared.status.Status.{Status}
use Rattle.machine_model.specs.declared.status.Status.TheVariants.{Outside, InBlock, Broken}
use Rattle.machine_model.specs.Session.{Session, Held, Task, Ask, Do, Performed, Goes, Fails, Kind, Begins, Commits, RollsBack, Works, kind, perform}
use Rattle.machine_model.specs.Session.{perform_by}
use Rattle.machine_model.specs.Session.{worked, note, tasks_of}
use Rattle.machine_model.specs.Go.{Scene, Run, go, taking, is_broken, reply_in, finished_by, stopped, failed, held_up}
use Rattle.machine_model.specs.World.{World, fresh, session_at, look_of, scene_of, granted, settle_for, settle, left_to_do, send, send_all}
use Rattle.machine_model.specs.Sound.{Steady, Sound}
use Rattle.machine_model.proofs.Basics.{known, cases-eq}
use Rattle.machine_model.proofs.Settles.{Grant, next-grant, entering-granted, granted-steady, entering, goes-steady, steady-of, send-sound}
use Rattle.machine_model.proofs.Counts.{send-fitting}
use Rattle.line_moments.specs.declared.moment.Change.{Change}
use Rattle.line_moments.specs.declared.moment.Change.TheVariants.{Had, LetGo}
use Rattle.line_moments.specs.Moments.{Sends, GoesOn, Skips, Going, let_go_by, let_go, end_changes, did_changes, go_changes}
use Rattle.line_moments.specs.Moments.{behind_by, settle_goings, goings, line_goings, moments, line_moments, moment_of, session_by, changes_by, told_only}
use Rattle.line_moments.specs.Moments.{holding, without, changes_to, changed}
use Rattle.line_moments.proofs.Telling.{before, go-before}

-- ---- changes one after another

pub changed-append : (h : Held) (cs ds : List Change) → changed h (cs ++ ds) ≡ changed (changed h cs) ds
changed-append h [] ds = refl
changed-append h (Had r m ∷ cs) ds = changed-append (insert h r m) cs ds
changed-append h (LetGo ∷ cs) ds = changed-append empty cs ds

none-held : (h : Held) → entries h ≡ [] → h ≡ empty
unfolding entries empty
none-held h e = same_list h empty e

gone : (h : Held) → changed h (let_go h) ≡ empty
gone h = at (entries h) refl
  where
    at : (es : List (Resource × Mode)) → entries h ≡ es → changed h (let_go_by es) ≡ empty
    at [] is = none-held h is
    at (x ∷ xs) is = refl

-- ---- a session goes

end-changed : (e : Scene) (b : Status) (s : Session) (rows : Rows') → changed s.held (end_changes b s.held) ≡ (finished_by b s rows).session.held
end-changed e Outside s rows = gone s.held
end-changed e (InBlock of) s rows = refl
end-changed e Broken s rows = refl

abbrev pub HeldAfter : Held → Performed → Type 0
HeldAfter h (Goes s rows) = h ≡ s.held
HeldAfter h (Fails f) = Unit {0}

worked-changed : (s : Session) (rows : Rows') (f : Effect) → HeldAfter s.held (worked s rows f)
worked-changed s rows (Gives events writes) = refl
worked-changed s rows (Faults f) = tt

pub did-changed : (b : Status) (k : Kind) (s : Session) (rows : Rows') (st : Bound)
    → HeldAfter (changed s.held (did_changes k s.held)) (perform_by b k s rows st)
did-changed Outside (Begins level) s rows st = refl
did-changed (InBlock of) (Begins level) s rows st = refl
did-changed Broken (Begins level) s rows st = tt
did-changed Outside Commits s rows st = gone s.held
did-changed (InBlock of) Commits s rows st = gone s.held
did-changed Broken Commits s rows st = gone s.held
did-changed Outside RollsBack s rows st = gone s.held
did-changed (InBlock of) RollsBack s rows st = gone s.held
did-changed Broken RollsBack s rows st = gone s.held
did-changed Outside Works s rows st = worked-changed s rows (effect st (lay s.overlay rows))
did-changed (InBlock of) Works s rows st = worked-changed s rows (effect st (lay s.overlay rows))
did-changed Broken Works s rows st = tt

go-changed : (e : Scene) (i : ℕ) (s : Session) (rows : Rows') (ts : List Task) → changed s.held (go_changes e i s rows ts) ≡ (go e i s rows ts).session.held
go-changed e i s rows [] = end-changed e s.status s rows
go-changed e i s rows (Ask nowait r m ∷ ts) = at (is_broken s.status) (reply_in e i s nowait r m) (go-changed e i (taking s r m) rows ts)
  where
    at : (b : Bool) (a : Reply) → changed (taking s r m).held (go_changes e i (taking s r m) rows ts) ≡ (go e i (taking s r m) rows ts).session.held
        → changed s.held (elim b [
          | true ↦ let_go s.held
          | false ↦ elim a [ IsHad ↦ Had r (wanted (get s.held r) m) ∷ go_changes e i (taking s r m) rows ts | Waits ↦ [] | Refused f ↦ let_go s.held ]
        ])
        ≡ (let x : Run = elim b [
          | true ↦ stopped e (failed s rows Aborted)
          | false ↦ elim a [ IsHad ↦ go e i (taking s r m) rows ts | Waits ↦ held_up e i s rows r m ts | Refused f ↦ stopped e (failed s rows f) ]
        ] in x.session.held)
    at true a rec = gone s.held
    at false IsHad rec = rec
    at false Waits rec = refl
    at false (Refused f) rec = gone s.held
go-changed e i s rows (Do st ∷ ts) = at (perform s rows st) (did-changed s.status (kind st) s rows st) (λ s2 rows2. go-changed e i s2 rows2 ts)
  where
    at : (p : Performed) → HeldAfter (changed s.held (did_changes (kind st) s.held)) p
        → ((s2 : Session) (rows2 : Rows') → changed s2.held (go_changes e i s2 rows2 ts) ≡ (go e i s2 rows2 ts).session.held)
        → changed s.held (elim p [ Goes s2 rows2 ↦ did_changes (kind st) s.held ++ go_changes e i s2 rows2 ts | Fails f ↦ let_go s.held ])
        ≡ (let x : Run = elim p [ Goes s2 rows2 ↦ go e i s2 rows2 ts | Fails f ↦ stopped e (failed s rows f) ] in x.session.held)
    at (Goes s2 rows2) is rec =
        changed-append s.held (did_changes (kind st) s.held) (go_changes e i s2 rows2 ts) ∙ ap (λ h. changed h (go_changes e i s2 rows2 ts)) is ∙ rec s2 rows2
    at (Fails f) is rec = gone s.held

-- ---- a world

abbrev Holds : World → World → (ℕ → List Change) → Type 0
Holds w v cs = (c : ℕ) → (session_at v c).held ≡ changed (session_at w c).held (cs c)

abbrev its_part : ℕ → List Change → ℕ → List Change
its_part i cs c = cond (i == c) cs []

pub put-holds : (w : World) (i : ℕ) (s : Session) (cs : List Change) → i < length w.sessions → s.held ≡ changed (session_at w i).held cs
    → (c : ℕ) → (get_or (set w.sessions i s) c fresh).held ≡ changed (session_at w c).held (its_part i cs c)
put-holds w i s cs lt is c = ⊎_elim there other (cases-eq c i)
  where
    there : c ≡ i → (get_or (set w.sessions i s) c fresh).held ≡ changed (session_at w c).held (its_part i cs c)
    there k =
        ap (λ d. (get_or (set w.sessions i s) d fresh).held) k ∙ ap (λ (x : Session). x.held) (get_or-set_same w.sessions i s fresh lt) ∙ is
        ∙ sym (ap (λ d. changed (session_at w d).held cs) k) ∙ sym (ap (λ b. changed (session_at w c).held (cond b cs [])) (eq-eqb i c (sym k)))

    other : c ≢ i → (get_or (set w.sessions i s) c fresh).held ≡ changed (session_at w c).held (its_part i cs c)
    other ne =
        let no_i : (i == c) ≡ false = ⊎_elim (λ h. absurd (ne (sym (eqb-true i c h)))) (λ h. h) (known (i == c)) in
        ap (λ (x : Session). x.held) (get_or-set_other w.sessions i c s fresh ne) ∙ sym (ap (λ b. changed (session_at w c).held (cond b cs [])) no_i)

-- the run of a session that was told something before
run-changed : (w : World) (i : ℕ) (u : Session) (ts : List Task)
    → (go (scene_of w) i (before (session_at w i).transcript u) w.rows ts).session.held ≡ changed u.held (go_changes (scene_of w) i u w.rows ts)
run-changed w i u ts =
    ap (λ (r : Run). r.session.held) (go-before (session_at w i).transcript (scene_of w) i u w.rows ts) ∙ sym (go-changed (scene_of w) i u w.rows ts)

pub sent-holds : (steps : List Step) (w : World) (k : ℕ) → (get_or steps k no_step).session < length w.sessions
    → Holds w (behind_by steps w (Sends k)) (its_part (get_or steps k no_step).session (changes_by steps w (Sends k)))
sent-holds steps w k lt =
    let i = (get_or steps k no_step).session in
    let ts = tasks_of (session_at w (get_or steps k no_step).session).status (get_or steps k no_step).statements in
    put-holds w i (go (scene_of w) i (note (session_at w i) (Sent k)) w.rows ts).session (changes_by steps w (Sends k)) lt
    (run-changed w i (told_only (session_at w i) (Sent k)) ts)

pub granted-holds : (steps : List Step) (w : World) (spot : Spot) → spot.wait.session < length w.sessions
    → Holds w (granted w spot) (its_part spot.wait.session (changes_by steps w (GoesOn spot)))
granted-holds steps w spot lt =
    let i = spot.wait.session in
    put-holds w i (go (scene_of (without w spot)) i (note (holding w spot) Resumed) w.rows (session_at w i).rest).session (changes_by steps w (GoesOn spot)) lt
    (run-changed (without w spot) i (told_only (holding w spot) Resumed) (session_at w i).rest)

then-holds : (steps : List Step) (w u v : World) (g : Going) (gs : List Going)
    → Holds w u (its_part (session_by steps g.cause) (changes_by steps g.world g.cause)) → Holds u v (λ c. changes_to c (map (moment_of steps) gs))
    → Holds w v (λ c. changes_to c (map (moment_of steps) (g ∷ gs)))
then-holds steps w u v g gs a b c =
    let cs = its_part (session_by steps g.cause) (changes_by steps g.world g.cause) c in
    let ds = changes_to c (map (moment_of steps) gs) in
    b c ∙ ap (λ h. changed h ds) (a c) ∙ sym (changed-append (session_at w c).held cs ds)

settle-holds : (steps : List Step) (n : ℕ) (w : World) → Steady w → Holds w (settle_for n w) (λ c. changes_to c (map (moment_of steps) (settle_goings n w)))
settle-holds steps zero w st = λ c. refl
settle-holds steps (suc n) w st = at (next_grant (length w.sessions) (look_of w) w.waits) refl
    (λ spot g. settle-holds steps n (granted w spot) (granted-steady w spot st g))
  where
    at : (o : Option Spot) → next_grant (length w.sessions) (look_of w) w.waits ≡ o
        → ((spot : Spot) → Grant (length w.sessions) (look_of w) w.waits spot
        → Holds (granted w spot) (settle_for n (granted w spot)) (λ c. changes_to c (map (moment_of steps) (settle_goings n (granted w spot)))))
        → Holds w (elim o [ None ↦ w | Some spot ↦ settle_for n (granted w spot) ])
        (λ c. changes_to c (map (moment_of steps)
        (elim o [ None ↦ [] | Some spot ↦ record { world = w; cause = GoesOn spot } ∷ settle_goings n (granted w spot) ])))
    at None is rec = λ c. refl
    at (Some spot) is rec =
        let g = next-grant (length w.sessions) (look_of w) w.waits spot is in
        then-holds steps w (granted w spot) (settle_for n (granted w spot)) (record { world = w; cause = GoesOn spot }) (settle_goings n (granted w spot))
        (granted-holds steps w spot (entering-granted w spot st g).known) (rec spot g)

send-holds : (steps : List Step) (w : World) (k : ℕ) → Sound w → (get_or steps k no_step).session < length w.sessions
    → Holds w (send steps w k) (λ c. changes_to c (moments steps w k))
send-holds steps w k sound lt = at (waits_now w.waits i) refl
  where
    i : ℕ
    i = (get_or steps k no_step).session

    at : (b : Bool) → waits_now w.waits i ≡ b
        → Holds w (elim b [ true ↦ behind_by steps w (Skips k) | false ↦ settle (behind_by steps w (Sends k)) ])
        (λ c. changes_to c (map (moment_of steps) (elim b [
          | true ↦ record { world = w; cause = Skips k } ∷ []
          | false ↦ record { world = w; cause = Sends k } ∷ settle_goings (left_to_do (behind_by steps w (Sends k))) (behind_by steps w (Sends k))
        ])))
    at true is =
        then-holds steps w (behind_by steps w (Skips k)) (behind_by steps w (Skips k)) (record { world = w; cause = Skips k }) []
        (put-holds w i (note (session_at w i) (NotSent k)) [] lt refl) (λ c. refl)
    at false is =
        let ss = (get_or steps k no_step).statements in
        then-holds steps w (behind_by steps w (Sends k)) (settle (behind_by steps w (Sends k))) (record { world = w; cause = Sends k })
        (settle_goings (left_to_do (behind_by steps w (Sends k))) (behind_by steps w (Sends k)))
        (sent-holds steps w k lt)
        (settle-holds steps (left_to_do (behind_by steps w (Sends k))) (behind_by steps w (Sends k))
        (goes-steady w i (note (session_at w i) (Sent k)) (tasks_of (session_at w i).status ss) (entering w i (note (session_at w i) (Sent k)) (session_at w i).status ss (steady-of w sound) lt is refl refl)))

changes-append : (steps : List Step) (c : ℕ) (gs hs : List Going) → changes_to c (map (moment_of steps) (gs ++ hs))
    ≡ changes_to c (map (moment_of steps) gs) ++ changes_to c (map (moment_of steps) hs)
changes-append steps c [] hs = refl
changes-append steps c (g ∷ gs) hs =
    let cs = its_part (session_by steps g.cause) (changes_by steps g.world g.cause) c in
    ap (λ x. cs ++ x) (changes-append steps c gs hs)
    ∙ sym (append_assoc cs (changes_to c (map (moment_of steps) gs)) (changes_to c (map (moment_of steps) hs)))

pub line-holds : (steps : List Step) (w : World) (ks : List ℕ) → Sound w → ((k : ℕ) → (get_or steps k no_step).session < length w.sessions)
    → (c : ℕ) → (session_at (send_all steps w ks) c).held ≡ changed (session_at w c).held (changes_to c (line_moments steps w ks))
line-holds steps w [] sound fit c = refl
line-holds steps w (k ∷ ks) sound fit c =
    let a = changes_to c (moments steps w k) in
    let b = changes_to c (line_moments steps (send steps w k) ks) in
    line-holds steps (send steps w k) ks (send-sound steps w k sound (fit k)) (send-fitting steps w k fit) c
    ∙ ap (λ h. changed h b) (send-holds steps w k sound (fit k) c) ∙ sym (changed-append (session_at w c).held a b)
    ∙ sym (ap (changed (session_at w c).held) (changes-append steps c (goings steps w k) (line_goings steps (send steps w k) ks)))
