-- A history tells what the transcripts show.
use Rattle.std.proofs.Common.{◌≡◌, ◌≢◌, refl, sym, ap, ◌∙◌, subst, ℕ, zero, suc, ◌<◌, Bool, true, false, cond, ◌==◌, List, [], ◌∷◌, ◌++◌, length, set, get_or}
use Rattle.std.proofs.Common.{Option, Some, None, ⊎_elim, append_assoc, append-nil, eqb-true, eq-eqb, length-set, get_or-set_same, get_or-set_other}
use Rattle.finite_maps.specs.Map.{get}
use Rattle.lock_queues.specs.Locks.{Spot, may_have, closes_ring, next_grant, waits_now}
use Rattle.lock_modes.specs.Rows.{Rows'}
use Rattle.row_tables.specs.Overlay.{lay}
use Rattle.statement_evaluation.specs.Effect.{Effect, Gives, Faults, effect}
use Rattle.machine_model.specs.Session.{Task, Ask, Do, Session, Performed, Goes, Fails, Kind, Begins, Commits, RollsBack, Works, kind, perform, perform_by}
use Rattle.machine_model.specs.Session.{worked, after_fault, note, tasks_of}
use Rattle.machine_model.specs.Go.{broken_off, replied, Scene, Run, taking, is_broken, failed, finished_by, stopped, go, held_up, look_with, waiting_with}
use Rattle.machine_model.specs.declared.reply.Reply.TheVariants.{Had, Waits, Refused}
use Rattle.machine_model.specs.World.{World, session_at, look_of, scene_of, goes, granted, settle, settle_for, left_to_do, send, send_all, noted}
use Rattle.bound_specs.specs.Spec.{Step, no_step}
use Rattle.machine_model.specs.Sound.{Steady, Sound}
use Rattle.serial_history.specs.Reading.{Reading, ends, step_ends, read}
use Rattle.serial_history.specs.Serial.{Did, Transaction, is_work, ended_with, commit_of, Ended, Tally, ended_well, dropped, did, tally_by, tally_end, go_tally}
use Rattle.serial_history.specs.Serial.{History, tally_of, goes_told, granted_told, settle_told, send_told, send_all_told, reading_of, AllTell, EndedTell}
use Rattle.serial_history.specs.Serial.{commits_of, committed_in, untold, Shown}
use Rattle.events.specs.declared.event.Event.{Event}
use Rattle.events.specs.declared.event.Event.TheVariants.{Sent, Began, Committed, RolledBack, Warned, Failed, Waiting, Resumed, Done, NotSent}
use Rattle.events.specs.declared.event.Warning.TheVariants.{InBlock as AlreadyInBlock, NoBlock}
use Rattle.events.specs.declared.event.Fault.{Fault}
use Rattle.events.specs.declared.event.Fault.TheVariants.{Deadlock, Aborted, Unavailable}
use Rattle.machine_model.specs.declared.status.Status.{Status}
use Rattle.machine_model.specs.declared.status.Status.TheVariants.{Outside, InBlock, Broken}
use Rattle.bound_statements.specs.declared.statement.Bound.{Bound}
use Rattle.machine_model.proofs.Basics.{known, cases-eq}
use Rattle.machine_model.proofs.Solo.{OnGoes}
use Rattle.machine_model.proofs.Settles.{Grant, next-grant, session-there, session-other, goes-steady, granted-steady, entering-granted, entering, steady-of}
use Rattle.machine_model.proofs.Settles.{send-sound, touched-same}
use Rattle.machine_model.proofs.Counts.{send-fitting}
use Rattle.serial_history.proofs.WorkTold.{TellsWork, effect-work}
use Rattle.serial_history.proofs.Readings.{read-more, failed-reads, ended-reads, did-reads, did-tells}

committed_in-append : (xs ys : List Ended) → committed_in (xs ++ ys) ≡ committed_in xs ++ committed_in ys
committed_in-append [] ys = refl
committed_in-append (x ∷ xs) ys =
    elim x.is_committed as (λ b. cond b (x.work ∷ committed_in (xs ++ ys)) (committed_in (xs ++ ys))
    ≡ cond b (x.work ∷ committed_in xs) (committed_in xs) ++ committed_in ys) [
      | true ↦ ap (λ d. x.work ∷ d) (committed_in-append xs ys)
      | false ↦ committed_in-append xs ys
    ]

commits_of-append : (c : ℕ) (ts us : List Transaction) → commits_of c (ts ++ us) ≡ commits_of c ts ++ commits_of c us
commits_of-append c [] us = refl
commits_of-append c (t ∷ ts) us =
    elim (t.session == c) as (λ b. cond b (t.work ∷ commits_of c (ts ++ us)) (commits_of c (ts ++ us))
    ≡ cond b (t.work ∷ commits_of c ts) (commits_of c ts) ++ commits_of c us) [
      | true ↦ ap (λ d. t.work ∷ d) (commits_of-append c ts us)
      | false ↦ commits_of-append c ts us
    ]

-- what is dropped is committed by nobody, what is committed by its session alone
dropped-work : (ds : List Did) → committed_in (ended_with false ds) ≡ []
dropped-work [] = refl
dropped-work (d ∷ ds) = refl

own-commit : (c i : ℕ) → i ≡ c → (ds : List Did) → commits_of c (commit_of i ds) ≡ committed_in (ended_with true ds)
own-commit c i e [] = refl
own-commit c i e (d ∷ ds) = ap (λ b. cond b ((d ∷ ds) ∷ []) []) (eq-eqb i c e)

other-commit : (c i : ℕ) → i ≢ c → (ds : List Did) → commits_of c (commit_of i ds) ≡ []
other-commit c i ne [] = refl
other-commit c i ne (d ∷ ds) = ap (λ b. cond b ((d ∷ ds) ∷ []) []) (⊎_elim (λ h. absurd (ne (eqb-true i c h))) (λ h. h) (known (i == c)))

ended-append : (xs ys : List Ended) → EndedTell xs → EndedTell ys → EndedTell (xs ++ ys)
ended-append [] ys p q = q
ended-append (x ∷ xs) ys p q = (p.0, ended-append xs ys p.1 q)

-- the work that ends tells
with-tells : (b : Bool) (ds : List Did) → AllTell ds → EndedTell (ended_with b ds)
with-tells b [] h = tt
with-tells b (d ∷ ds) h = (h, tt)

-- a fault leaves no level behind
fault-untold : (status : Status) → after_fault (untold status) ≡ untold (after_fault status)
fault-untold Outside = refl
fault-untold (InBlock level) = refl
fault-untold Broken = refl

-- ---- a session goes. `before` is what was committed before it
module _ (from : Reading) (i : ℕ) (before : List Transaction) where
  abbrev reading : Session → Tally → Reading
  reading s t = reading_of s.status t.work t.ended

  pub record Faithful (s : Session) (t : Tally) : Type 0 where
    pub session : t.session ≡ i
    pub reads : reading_of s.status t.work t.ended ≡ read from s.transcript
    pub tells : AllTell t.work
    pub told : EndedTell t.ended
    pub owns : commits_of i t.commits ≡ committed_in t.ended
    pub others : (c : ℕ) → c ≢ i → commits_of c t.commits ≡ commits_of c before

  -- the session is told these events, which change nothing but its status; the work that is open is dropped; it is committed
  goes_on : (s s2 : Session) (t : Tally) (es : List Event) → s2.transcript ≡ s.transcript ++ es → reading s2 t ≡ read (reading s t) es → Faithful s t
      → Faithful s2 t
  goes_on s s2 t es told e x =
      record {
        session = x.session;
        reads = e ∙ read-more from (reading s t) s.transcript es x.reads ∙ ap (read from) (sym told);
        tells = x.tells;
        told = x.told;
        owns = x.owns;
        others = x.others;
      }

  let_go : (s s2 : Session) (t : Tally) (es : List Event) → s2.transcript ≡ s.transcript ++ es → ends false (untold s2.status) (reading s t) ≡ read (reading s t) es
      → Faithful s t → Faithful s2 (dropped t)
  let_go s s2 t es told e x =
      record {
        session = x.session;
        reads = ended-reads false s.status s2.status t.work t.ended x.tells ∙ e ∙ read-more from (reading s t) s.transcript es x.reads
            ∙ ap (read from) (sym told);
        tells = tt;
        told = ended-append t.ended (ended_with false t.work) x.told (with-tells false t.work x.tells);
        owns = x.owns ∙ sym (committed_in-append t.ended (ended_with false t.work) ∙ ap (λ d. committed_in t.ended ++ d) (dropped-work t.work)
            ∙ append-nil (committed_in t.ended));
        others = x.others;
      }

  committed : (s s2 : Session) (t : Tally) (es : List Event) → s2.transcript ≡ s.transcript ++ es → ends true (untold s2.status) (reading s t) ≡ read (reading s t) es
      → Faithful s t → Faithful s2 (ended_well t)
  committed s s2 t es told e x =
      record {
        session = x.session;
        reads = ended-reads true s.status s2.status t.work t.ended x.tells ∙ e ∙ read-more from (reading s t) s.transcript es x.reads
            ∙ ap (read from) (sym told);
        tells = tt;
        told = ended-append t.ended (ended_with true t.work) x.told (with-tells true t.work x.tells);
        owns = commits_of-append i t.commits (commit_of t.session t.work)
            ∙ ap (λ d. commits_of i t.commits ++ d) (own-commit i t.session x.session t.work)
            ∙ ap (λ d. d ++ committed_in (ended_with true t.work)) x.owns
            ∙ sym (committed_in-append t.ended (ended_with true t.work));
        others = λ c ne. commits_of-append c t.commits (commit_of t.session t.work)
            ∙ ap (λ d. commits_of c t.commits ++ d) (other-commit c t.session (λ h. ne (sym h ∙ x.session)) t.work)
            ∙ append-nil (commits_of c t.commits) ∙ x.others c ne;
      }

  worked-faithful : (at : Status) (s : Session) (rows : Rows') (st : Bound) (f : Effect) (t : Tally) → TellsWork (is_work st) f → Faithful s t
      → OnGoes (worked s rows f) (λ s2 rows2. Faithful s2 (did at st f t))
  worked-faithful at s rows st (Gives events writes) t h x =
      let new : Did = record { status = at; statement = st; events = events } in
      record {
        session = x.session;
        reads = did-reads (is_work st) s.status t.work t.ended new writes h ∙ read-more from (reading s t) s.transcript events x.reads;
        tells = did-tells (is_work st) t.work new writes h x.tells;
        told = x.told;
        owns = x.owns;
        others = x.others;
      }
  worked-faithful at s rows st (Faults f) t h x = tt

  by-two : (es : List Event) (a b : Event) → (es ++ a ∷ []) ++ b ∷ [] ≡ es ++ (a ∷ b ∷ [])
  by-two es a b = append_assoc es (a ∷ []) (b ∷ [])

  -- at a status that is known
  status-is : (status : Status) (s : Session) (t : Tally) → s.status ≡ status → reading s t ≡ reading_of status t.work t.ended
  status-is status s t is = ap (λ k. reading_of k t.work t.ended) is

  perform_by-faithful : (status : Status) (k : Kind) (s : Session) (rows : Rows') (st : Bound) (t : Tally) → s.status ≡ status → Faithful s t
      → OnGoes (perform_by status k s rows st) (λ s2 rows2. Faithful s2 (tally_by status k s rows st t))
  perform_by-faithful Outside (Begins level) s rows st t is x = goes_on s _ t (Began ∷ []) refl refl x
  perform_by-faithful (InBlock of) (Begins level) s rows st t is x =
      goes_on s _ t (Warned AlreadyInBlock ∷ Began ∷ []) (by-two s.transcript (Warned AlreadyInBlock) Began) (status-is (InBlock of) s t is) x
  perform_by-faithful Broken (Begins level) s rows st t is x = tt
  perform_by-faithful Outside Commits s rows st t is x = committed s _ t (Warned NoBlock ∷ Committed ∷ [])
      (by-two s.transcript (Warned NoBlock) Committed) refl x
  perform_by-faithful (InBlock of) Commits s rows st t is x = committed s _ t (Committed ∷ []) refl refl x
  perform_by-faithful Broken Commits s rows st t is x = let_go s _ t (RolledBack ∷ []) refl refl x
  perform_by-faithful Outside RollsBack s rows st t is x = let_go s _ t (Warned NoBlock ∷ RolledBack ∷ [])
      (by-two s.transcript (Warned NoBlock) RolledBack) refl x
  perform_by-faithful (InBlock of) RollsBack s rows st t is x = let_go s _ t (RolledBack ∷ []) refl refl x
  perform_by-faithful Broken RollsBack s rows st t is x = let_go s _ t (RolledBack ∷ []) refl refl x
  perform_by-faithful Outside Works s rows st t is x = worked-faithful Outside s rows st (effect st (lay s.overlay rows)) t (effect-work st (lay s.overlay rows)) x
  perform_by-faithful (InBlock of) Works s rows st t is x = worked-faithful (InBlock of) s rows st (effect st (lay s.overlay rows)) t (effect-work st (lay s.overlay rows)) x
  perform_by-faithful Broken Works s rows st t is x = tt

  end-faithful : (status : Status) (s : Session) (rows : Rows') (t : Tally) → s.status ≡ status → Faithful s t
      → Faithful (finished_by status s rows).session (tally_end status t)
  end-faithful Outside s rows t is x =
      committed s (finished_by Outside s rows).session t (Done ∷ []) refl
      (ap (λ k. ends true (untold k) (reading s t)) is ∙ sym (ap (λ k. step_ends (untold k) (reading s t)) is)) x
  end-faithful (InBlock of) s rows t is x = goes_on s _ t (Done ∷ []) refl (sym (ap (λ k. step_ends (untold k) (reading s t)) is)) x
  end-faithful Broken s rows t is x = goes_on s _ t (Done ∷ []) refl (sym (ap (λ k. step_ends (untold k) (reading s t)) is)) x

  abbrev AfterRun : Run → Tally → Type 0
  AfterRun r t = Faithful r.session t

  failed-faithful : (e : Scene) (s : Session) (rows : Rows') (f : Fault) (t : Tally) → Faithful s t → AfterRun (stopped e (failed s rows f)) (dropped t)
  failed-faithful e s rows f t x = let_go s (broken_off s f) t (Failed f ∷ Done ∷ []) refl
      (ap (λ k. ends false k (reading s t)) (sym (fault-untold s.status)) ∙ sym (failed-reads (untold s.status) (reading s t))) x

  pub go-faithful : (e : Scene) (s : Session) (rows : Rows') (ts : List Task) (t : Tally) → Faithful s t
      → AfterRun (go e i s rows ts) (go_tally e i s rows ts t)
  go-faithful e s rows [] t x = end-faithful s.status s rows t refl x
  go-faithful e s rows (Ask n r m ∷ ts) t x = asked (is_broken s.status) (may_have e.count e.look e.waits i (get s.held r) r m) n
      (closes_ring e.count (look_with e i s.held) (waiting_with e i r m) i)
      (go-faithful e (taking s r m) rows ts t (goes_on s (taking s r m) t [] (sym (append-nil s.transcript)) refl x))
    where
      asked : (b h n c : Bool) → AfterRun (go e i (taking s r m) rows ts) (go_tally e i (taking s r m) rows ts t)
          → AfterRun (elim b [
            | true ↦ stopped e (failed s rows Aborted)
            | false ↦ elim (replied h n c) [
              | Had ↦ go e i (taking s r m) rows ts
              | Waits ↦ held_up e i s rows r m ts
              | Refused f ↦ stopped e (failed s rows f)
            ]
          ])
          (elim b [ true ↦ dropped t | false ↦ elim (replied h n c) [ Had ↦ go_tally e i (taking s r m) rows ts t | Waits ↦ t | Refused f ↦ dropped t ] ])
      asked true h n c rec = failed-faithful e s rows Aborted t x
      asked false true n c rec = rec
      asked false false true c rec = failed-faithful e s rows Unavailable t x
      asked false false false true rec = failed-faithful e s rows Deadlock t x
      asked false false false false rec = goes_on s _ t (Waiting ∷ []) refl refl x
  go-faithful e s rows (Do st ∷ ts) t x = done (perform s rows st) (perform_by-faithful s.status (kind st) s rows st t refl x)
      (λ s2 rows2 y. go-faithful e s2 rows2 ts (tally_by s.status (kind st) s rows st t) y)
    where
      done : (d : Performed) → OnGoes d (λ s2 rows2. Faithful s2 (tally_by s.status (kind st) s rows st t))
          → ((s2 : Session) (rows2 : Rows') → Faithful s2 (tally_by s.status (kind st) s rows st t)
          → AfterRun (go e i s2 rows2 ts) (go_tally e i s2 rows2 ts (tally_by s.status (kind st) s rows st t)))
          → AfterRun (elim d [ Goes s2 rows2 ↦ go e i s2 rows2 ts | Fails f ↦ stopped e (failed s rows f) ])
          (elim d [ Goes s2 rows2 ↦ go_tally e i s2 rows2 ts (tally_by s.status (kind st) s rows st t) | Fails f ↦ dropped t ])
      done (Goes s2 rows2) y rec = rec s2 rows2 y
      done (Fails f) y rec = failed-faithful e s rows f t x

-- ---- worlds

pub goes-shown : (from : ℕ → Reading) (w : World) (h : History) (i : ℕ) (s : Session) (ts : List Task) → i < length w.sessions
    → s.status ≡ (session_at w i).status
    → read (from i) s.transcript ≡ read (from i) (session_at w i).transcript → Shown from w h → Shown from (goes w i s ts) (goes_told w i s ts h)
goes-shown from w h i s ts lt is e x =
    record {
      reads = λ c. ⊎_elim
          (λ k. subst (λ d. reading_of (session_at (goes w i s ts) d).status (get_or (set h.works i its.work) d []) (get_or (set h.ended i its.ended) d [])
          ≡ read (from d) (session_at (goes w i s ts) d).transcript) (sym k)
          ((λ j. reading_of (session-there w i gone lt j).status (work-here j) (ended-here j)) ∙ f.reads
          ∙ ap (λ (y : Session). read (from i) y.transcript) (sym (session-there w i gone lt))))
          (λ ne. (λ j. reading_of (session-other w i c gone ne j).status (get_or-set_other h.works i c its.work [] ne j)
          (get_or-set_other h.ended i c its.ended [] ne j)) ∙ x.reads c
          ∙ ap (λ (y : Session). read (from c) y.transcript) (sym (session-other w i c gone ne)))
          (cases-eq c i);
      tells = λ c. ⊎_elim (λ k. subst (λ d. AllTell (get_or (set h.works i its.work) d [])) (sym k) (subst AllTell (sym work-here) f.tells))
          (λ ne. subst AllTell (sym (get_or-set_other h.works i c its.work [] ne)) (x.tells c))
          (cases-eq c i);
      told = λ c. ⊎_elim (λ k. subst (λ d. EndedTell (get_or (set h.ended i its.ended) d [])) (sym k) (subst EndedTell (sym ended-here) f.told))
          (λ ne. subst EndedTell (sym (get_or-set_other h.ended i c its.ended [] ne)) (x.told c))
          (cases-eq c i);
      owns = λ c. ⊎_elim (λ k. subst (λ d. commits_of d its.commits ≡ committed_in (get_or (set h.ended i its.ended) d [])) (sym k)
          (f.owns ∙ ap committed_in (sym ended-here)))
          (λ ne. f.others c ne ∙ x.owns c ∙ ap committed_in (sym (get_or-set_other h.ended i c its.ended [] ne)))
          (cases-eq c i);
      count_works = length-set h.works i its.work ∙ x.count_works ∙ sym (length-set w.sessions i gone.session);
      count_ended = length-set h.ended i its.ended ∙ x.count_ended ∙ sym (length-set w.sessions i gone.session);
    }
  where
    gone : Run
    gone = go (scene_of w) i s w.rows ts

    its : Tally
    its = go_tally (scene_of w) i s w.rows ts (tally_of h i)

    f : Faithful (from i) i h.commits gone.session its
    f =
        go-faithful (from i) i h.commits (scene_of w) s w.rows ts (tally_of h i) (record {
          session = refl;
          reads = ap (λ k. reading_of k (get_or h.works i []) (get_or h.ended i [])) is ∙ x.reads i ∙ sym e;
          tells = x.tells i;
          told = x.told i;
          owns = x.owns i;
          others = λ c ne. refl;
        })

    ended-here : get_or (set h.ended i its.ended) i [] ≡ its.ended
    ended-here = get_or-set_same h.ended i its.ended [] (subst (λ n. i < n) (sym x.count_ended) lt)

    work-here : get_or (set h.works i its.work) i [] ≡ its.work
    work-here = get_or-set_same h.works i its.work [] (subst (λ n. i < n) (sym x.count_works) lt)

pub granted-shown : (from : ℕ → Reading) (w : World) (h : History) (spot : Spot) → Steady w → Grant (length w.sessions) (look_of w) w.waits spot
    → Shown from w h → Shown from (granted w spot) (granted_told w spot h)
granted-shown from w h spot st g x =
    let i = spot.wait.session in
    let s = session_at w i in
    goes-shown from (record w { waits = spot.before ++ spot.after }) h i
    (note (record (taking s spot.wait.resource spot.wait.mode) { rest = [] }) Resumed) s.rest (entering-granted w spot st g).known refl
    (sym (read-more (from i) _ s.transcript (Resumed ∷ []) refl))
    (record { reads = x.reads; tells = x.tells; told = x.told; owns = x.owns; count_works = x.count_works; count_ended = x.count_ended })

pub settle-shown : (n : ℕ) (from : ℕ → Reading) (w : World) (h : History) → Steady w → Shown from w h → Shown from (settle_for n w) (settle_told n w h)
settle-shown zero from w h st x = x
settle-shown (suc n) from w h st x = at (next_grant (length w.sessions) (look_of w) w.waits) refl
    (λ spot g. settle-shown n from (granted w spot) (granted_told w spot h) (granted-steady w spot st g) (granted-shown from w h spot st g x))
  where
    at : (o : Option Spot) → next_grant (length w.sessions) (look_of w) w.waits ≡ o
        → ((spot : Spot) → Grant (length w.sessions) (look_of w) w.waits spot
        → Shown from (settle_for n (granted w spot)) (settle_told n (granted w spot) (granted_told w spot h)))
        → Shown from (elim o [ None ↦ w | Some spot ↦ settle_for n (granted w spot) ])
        (elim o [ None ↦ h | Some spot ↦ settle_told n (granted w spot) (granted_told w spot h) ])
    at None is rec = x
    at (Some spot) is rec = rec spot (next-grant (length w.sessions) (look_of w) w.waits spot is)

pub send-shown : (from : ℕ → Reading) (steps : List Step) (w : World) (k : ℕ) (h : History) → Sound w → (get_or steps k no_step).session < length w.sessions
    → Shown from w h → Shown from (send steps w k) (send_told steps w k h)
send-shown from steps w k h sound lt x = at (waits_now w.waits i) refl
  where
    i : ℕ
    i = (get_or steps k no_step).session

    ss : List Bound
    ss = (get_or steps k no_step).statements

    s : Session
    s = note (session_at w i) (Sent k)

    at : (b : Bool) → waits_now w.waits i ≡ b
        → Shown from (elim b [ true ↦ noted w i (NotSent k) | false ↦ settle (goes w i s (tasks_of s.status ss)) ])
        (elim b [ true ↦ h | false ↦ settle_told (left_to_do (goes w i s (tasks_of s.status ss))) (goes w i s (tasks_of s.status ss)) (goes_told w i s (tasks_of s.status ss) h) ])
    at true is =
        let n : Session = note (session_at w i) (NotSent k) in
        record {
          reads = λ c. touched-same w i c n (λ y. reading_of y.status (get_or h.works c []) (get_or h.ended c []) ≡ read (from c) y.transcript)
              (λ p. p ∙ read-more (from c) _ (session_at w i).transcript (NotSent k ∷ []) refl) (x.reads c);
          tells = x.tells;
          told = x.told;
          owns = x.owns;
          count_works = x.count_works ∙ sym (length-set w.sessions i n);
          count_ended = x.count_ended ∙ sym (length-set w.sessions i n);
        }
    at false is =
        settle-shown (left_to_do (goes w i s (tasks_of s.status ss))) from (goes w i s (tasks_of s.status ss)) (goes_told w i s (tasks_of s.status ss) h)
        (goes-steady w i s (tasks_of s.status ss) (entering w i s s.status ss (steady-of w sound) lt is refl refl))
        (goes-shown from w h i s (tasks_of s.status ss) lt refl (sym (read-more (from i) _ (session_at w i).transcript (Sent k ∷ []) refl)) x)

-- so does a whole line
pub line-shown : (from : ℕ → Reading) (steps : List Step) (w : World) (ks : List ℕ) (h : History) → Sound w
    → ((k : ℕ) → (get_or steps k no_step).session < length w.sessions) → Shown from w h → Shown from (send_all steps w ks) (send_all_told steps w ks h)
line-shown from steps w [] h sound fit x = x
line-shown from steps w (k ∷ ks) h sound fit x = line-shown from steps (send steps w k) ks (send_told steps w k h) (send-sound steps w k sound (fit k))
    (send-fitting steps w k fit) (send-shown from steps w k h sound (fit k) x)
