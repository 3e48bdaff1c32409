-- The locks that a moment tells are those of the requests of its tasks, up to where its session stops.
use Rattle.std.proofs.Common.{◌≡◌, ◌≢◌, refl, sym, ap, ◌∙◌, subst, ℕ, Bool, true, false, ◌||◌, ◌==◌, List, [], ◌∷◌, ◌++◌, get_or, append_assoc}
use Rattle.std.proofs.Common.{⊎_elim, inl, inr, eqb-true}
use Rattle.std.proofs.lemmas.List.Folds.{list_any-append}
use Rattle.finite_maps.specs.Map.{get, insert, empty, entries}
use Rattle.lock_modes.specs.declared.mode.Mode.{Mode}
use Rattle.lock_modes.specs.declared.resource.Resource.{Resource}
use Rattle.lock_modes.specs.Rows.{Rows'}
use Rattle.lock_queues.specs.declared.wait.Wait.{Wait}
use Rattle.lock_queues.specs.Locks.{waits_now, wanted, may_have}
use Rattle.lock_queues.specs.Sound.{EachWait}
use Rattle.row_tables.specs.Overlay.{lay}
use Rattle.statement_evaluation.specs.Effect.{Effect, Gives, Faults, effect}
use Rattle.bound_specs.specs.Spec.{Step, no_step}
use Rattle.bound_statements.specs.declared.statement.Bound.{Bound}
use Rattle.events.specs.declared.event.Event.{Event}
use Rattle.events.specs.declared.event.Event.TheVariants.{Sent, Row as RowEvent, Rows, Inserted, Updated, Deleted, Began, Committed, RolledBack}
use Rattle.events.specs.declared.event.Event.TheVariants.{Locked, Set}
use Rattle.events.specs.declared.event.Event.TheVariants.{Warned, Failed, Waiting, Resumed, Done, NotSent}
use Rattle.events.specs.declared.event.Fault.{Fault}
use Rattle.events.specs.declared.event.Fault.TheVariants.{Aborted}
use Rattle.events.specs.declared.event.Warning.TheVariants.{InBlock as AlreadyInBlock, NoBlock}
use Rattle.machine_model.specs.declared.reply.Reply.{Reply}
use Rattle.machine_model.specs.declared.reply.Reply.TheVariants.{Had as IsHad, Waits, Refused}
use Rattle.machine_model.specs.declared.status.Status.{Status}
use Rattle.machine_model.specs.declared.status.Status.TheVariants.{Outside, InBlock, Broken}
use Rattle.machine_model.specs.Events.{is_effect}
use Rattle.machine_model.specs.Session.{Session, Held, Task, Ask, Do, Performed, Goes, Fails, Kind, Begins, Commits, RollsBack, Works, kind, perform}
use Rattle.machine_model.specs.Session.{perform_by, worked, note, tasks_of}
use Rattle.machine_model.specs.Go.{Scene, Run, go, taking, is_broken, replied, reply_in, waiting_with, finished_by, stopped, failed, held_up}
use Rattle.machine_model.specs.World.{World, session_at, scene_of}
use Rattle.machine_model.specs.Start.{is_failure}
use Rattle.machine_model.proofs.Basics.{known}
use Rattle.machine_model.proofs.Telling.{AllEffects, TellsEffects, effect-tells}
use Rattle.machine_model.proofs.Settles.{entering, entering-granted, steady-of, session-there}
use Rattle.line_moments.specs.Laws.{LocksAreAsked}
use Rattle.line_moments.specs.declared.moment.Change.{Change}
use Rattle.line_moments.specs.declared.moment.Change.TheVariants.{Had, LetGo}
use Rattle.line_moments.specs.Moments.{Sends, GoesOn, Going, behind, let_go_by, let_go, end_changes, did_changes, go_changes}
use Rattle.line_moments.specs.Moments.{changed, session_by, events_by, changes_by, told_only, holding, without, granted_by, held_from, tasks_by, changes_along}
use Rattle.line_moments.specs.Moments.{scene_by, going_by, Does, StopsAt, Halt, AtEnd, AtWait, AtFault, left_at, let_go_at, tells_fault}
use Rattle.line_moments.specs.Moments.{IsSeenAt, LetsGoOfHeld, AreAsked, AreAskedBy}
use Rattle.line_moments.proofs.Telling.{before, go-before}
use Rattle.line_moments.proofs.Holding.{HeldAfter, did-changed, changed-append}
use Rattle.line_moments.proofs.Losing.{had-may}
use Rattle.line_moments.proofs.Waiting.{line-each}

-- ---- what is let go was held

let-go-held : (h : Held) → LetsGoOfHeld h (let_go h)
let-go-held h = at (entries h) refl
  where
    at : (es : List (Resource × Mode)) → entries h ≡ es → LetsGoOfHeld h (let_go_by es)
    at [] is = tt
    at (x ∷ xs) is = ((λ k. let y : x ∷ xs ≡ [] = sym is ∙ k in cc), tt)

end-held : (b : Status) (h : Held) → LetsGoOfHeld h (end_changes b h)
end-held Outside h = let-go-held h
end-held (InBlock of) h = tt
end-held Broken h = tt

did-held : (k : Kind) (h : Held) → LetsGoOfHeld h (did_changes k h)
did-held (Begins level) h = tt
did-held Commits h = let-go-held h
did-held RollsBack h = let-go-held h
did-held Works h = tt

held-append : (h : Held) (cs ds : List Change) → LetsGoOfHeld h cs → LetsGoOfHeld (changed h cs) ds → LetsGoOfHeld h (cs ++ ds)
held-append h [] ds a b = b
held-append h (Had r m ∷ cs) ds a b = held-append (insert h r m) cs ds a b
held-append h (LetGo ∷ cs) ds a b = (a.0, held-append empty cs ds a.1 b)

-- ---- faults that are told

or-false : (b : Bool) → (b || false) ≡ b
or-false true = refl
or-false false = refl

or-true : (b : Bool) → (b || true) ≡ true
or-true true = refl
or-true false = refl

fault-push : (t : List Event) (e : Event) → is_failure e ≡ false → tells_fault (t ++ e ∷ []) ≡ tells_fault t
fault-push t e is = list_any-append is_failure t (e ∷ []) ∙ ap (λ b. tells_fault t || (b || false)) is ∙ or-false (tells_fault t)

two-push : (t : List Event) (d e : Event) → is_failure d ≡ false → is_failure e ≡ false → tells_fault ((t ++ d ∷ []) ++ e ∷ []) ≡ tells_fault t
two-push t d e p q = fault-push (t ++ d ∷ []) e q ∙ fault-push t d p

fault-told : (t : List Event) (f : Fault) → tells_fault (t ++ Failed f ∷ Done ∷ []) ≡ true
fault-told t f = list_any-append is_failure t (Failed f ∷ Done ∷ []) ∙ or-true (tells_fault t)

effect-no-fault : (e : Event) → is_effect e ≡ true → is_failure e ≡ false
effect-no-fault (Sent k) d = refl
effect-no-fault (RowEvent r) d = refl
effect-no-fault (Rows k) d = refl
effect-no-fault (Inserted k) d = refl
effect-no-fault (Updated k) d = refl
effect-no-fault (Deleted k) d = refl
effect-no-fault Began d = refl
effect-no-fault Committed d = refl
effect-no-fault RolledBack d = refl
effect-no-fault Locked d = refl
effect-no-fault Set d = refl
effect-no-fault (Warned w) d = refl
effect-no-fault (Failed f) d = absurd (let x : false ≡ true = d in cc)
effect-no-fault Waiting d = refl
effect-no-fault Resumed d = refl
effect-no-fault Done d = refl
effect-no-fault (NotSent k) d = refl

effects-no-fault : (es : List Event) → AllEffects es → tells_fault es ≡ false
effects-no-fault [] all = refl
effects-no-fault (e ∷ es) all = ap (λ b. b || tells_fault es) (effect-no-fault e all.0) ∙ effects-no-fault es all.1

-- a statement that goes tells no fault
abbrev NoFault : List Event → Performed → Type 0
NoFault t (Goes s rows) = tells_fault s.transcript ≡ tells_fault t
NoFault t (Fails f) = Unit {0}

worked-no-fault : (s : Session) (rows : Rows') (f : Effect) → TellsEffects f → NoFault s.transcript (worked s rows f)
worked-no-fault s rows (Gives events writes) d =
    list_any-append is_failure s.transcript events ∙ ap (λ b. tells_fault s.transcript || b) (effects-no-fault events d) ∙ or-false (tells_fault s.transcript)
worked-no-fault s rows (Faults f) d = tt

perform_by-no-fault : (b : Status) (k : Kind) (s : Session) (rows : Rows') (st : Bound) → NoFault s.transcript (perform_by b k s rows st)
perform_by-no-fault Outside (Begins level) s rows st = fault-push s.transcript Began refl
perform_by-no-fault (InBlock of) (Begins level) s rows st = two-push s.transcript (Warned AlreadyInBlock) Began refl refl
perform_by-no-fault Broken (Begins level) s rows st = tt
perform_by-no-fault Outside Commits s rows st = two-push s.transcript (Warned NoBlock) Committed refl refl
perform_by-no-fault (InBlock of) Commits s rows st = fault-push s.transcript Committed refl
perform_by-no-fault Broken Commits s rows st = fault-push s.transcript RolledBack refl
perform_by-no-fault Outside RollsBack s rows st = two-push s.transcript (Warned NoBlock) RolledBack refl refl
perform_by-no-fault (InBlock of) RollsBack s rows st = fault-push s.transcript RolledBack refl
perform_by-no-fault Broken RollsBack s rows st = fault-push s.transcript RolledBack refl
perform_by-no-fault Outside Works s rows st = worked-no-fault s rows (effect st (lay s.overlay rows)) (effect-tells st (lay s.overlay rows))
perform_by-no-fault (InBlock of) Works s rows st = worked-no-fault s rows (effect st (lay s.overlay rows)) (effect-tells st (lay s.overlay rows))
perform_by-no-fault Broken Works s rows st = tt

-- ---- a session goes

abbrev StopsSo : Scene → ℕ → List Event → Run → Halt → Type 0
StopsSo e i t r AtEnd = (r.waits ≡ e.waits) × (tells_fault r.session.transcript ≡ tells_fault t)
StopsSo e i t r (AtWait resource mode rest) =
    (r.waits ≡ waiting_with e i resource mode) × (r.session.rest ≡ rest) × (tells_fault r.session.transcript ≡ tells_fault t)
StopsSo e i t r (AtFault task rest) = (r.waits ≡ e.waits) × (tells_fault r.session.transcript ≡ true)

-- it goes along these tasks with these changes
record Along (e : Scene) (i : ℕ) (s : Session) (rows : Rows') (ts : List Task) (cs : List Change) (r : Run) : Type 0 where
  pub done : List Task
  pub halt : Halt
  pub tasks : ts ≡ done ++ left_at halt
  pub session : Session
  pub there : Rows'
  pub does : Does e i s rows done session there
  pub stops : StopsAt e i session there halt
  pub changes : cs ≡ changes_along s.held done ++ let_go_at halt r.session.status (changed s.held (changes_along s.held done))
  pub seen : StopsSo e i s.transcript r halt
  pub held : LetsGoOfHeld s.held cs

ask-along : (e : Scene) (i : ℕ) (s : Session) (rows : Rows') (nowait : Bool) (q : Resource) (m : Mode) (ts : List Task) (cs : List Change) (r : Run)
    → is_broken s.status ≡ false → may_have e.count e.look e.waits i (get s.held q) q m ≡ true
    → Along e i (taking s q m) rows ts cs r → Along e i s rows (Ask nowait q m ∷ ts) (Had q (wanted (get s.held q) m) ∷ cs) r
ask-along e i s rows nowait q m ts cs r sane had x =
    record {
      done = Ask nowait q m ∷ x.done;
      halt = x.halt;
      tasks = ap (λ us. Ask nowait q m ∷ us) x.tasks;
      session = x.session;
      there = x.there;
      does = (sane, had, x.does);
      stops = x.stops;
      changes = ap (λ ds. Had q (wanted (get s.held q) m) ∷ ds) x.changes;
      seen = x.seen;
      held = x.held;
    }

seen-before : (e : Scene) (i : ℕ) (t u : List Event) (r : Run) (halt : Halt) → tells_fault u ≡ tells_fault t → StopsSo e i u r halt → StopsSo e i t r halt
seen-before e i t u r AtEnd is x = (x.0, x.1 ∙ is)
seen-before e i t u r (AtWait resource mode rest) is x = (x.0, x.1, x.2 ∙ is)
seen-before e i t u r (AtFault task rest) is x = x

do-along : (e : Scene) (i : ℕ) (s s2 : Session) (rows rows2 : Rows') (st : Bound) (ts : List Task) (cs : List Change) (r : Run)
    → perform s rows st ≡ Goes s2 rows2 → changed s.held (did_changes (kind st) s.held) ≡ s2.held → tells_fault s2.transcript ≡ tells_fault s.transcript
    → Along e i s2 rows2 ts cs r → Along e i s rows (Do st ∷ ts) (did_changes (kind st) s.held ++ cs) r
do-along e i s s2 rows rows2 st ts cs r goes_so is told x =
    let h : Held = s.held in
    let front = did_changes (kind st) h in
    let more = changes_along (changed h front) x.done in
    let changes : cs ≡ changes_along (changed h front) x.done
    ++ let_go_at x.halt r.session.status (changed (changed h front) (changes_along (changed h front) x.done)) =
    subst (λ k. cs ≡ changes_along k x.done ++ let_go_at x.halt r.session.status (changed k (changes_along k x.done))) (sym is) x.changes in
    record {
      done = Do st ∷ x.done;
      halt = x.halt;
      tasks = ap (λ us. Do st ∷ us) x.tasks;
      session = x.session;
      there = x.there;
      does = (s2, rows2, goes_so, x.does);
      stops = x.stops;
      changes = ap (λ ds. front ++ ds) changes ∙ sym (append_assoc front more (let_go_at x.halt r.session.status (changed (changed h front) more)))
          ∙ ap (λ k. (front ++ more) ++ let_go_at x.halt r.session.status k) (sym (changed-append h front more));
      seen = seen-before e i s.transcript s2.transcript r x.halt told x.seen;
      held = held-append h front cs (did-held (kind st) h) (subst (λ k. LetsGoOfHeld k cs) (sym is) x.held);
    }

fault-along : (e : Scene) (i : ℕ) (s : Session) (rows : Rows') (task : Task) (ts : List Task) (f : Fault) → StopsAt e i s rows (AtFault task ts)
    → Along e i s rows (task ∷ ts) (let_go s.held) (stopped e (failed s rows f))
fault-along e i s rows task ts f stops =
    record {
      done = [];
      halt = AtFault task ts;
      tasks = refl;
      session = s;
      there = rows;
      does = (refl, refl);
      stops = stops;
      changes = refl;
      seen = (refl, fault-told s.transcript f);
      held = let-go-held s.held;
    }

end-told : (b : Status) (s : Session) (rows : Rows') → tells_fault (finished_by b s rows).session.transcript ≡ tells_fault s.transcript
end-told Outside s rows = fault-push s.transcript Done refl
end-told (InBlock of) s rows = fault-push s.transcript Done refl
end-told Broken s rows = fault-push s.transcript Done refl

end-status : (b : Status) (s : Session) (rows : Rows') → (finished_by b s rows).session.status ≡ s.status
end-status Outside s rows = refl
end-status (InBlock of) s rows = refl
end-status Broken s rows = refl

end-along : (e : Scene) (i : ℕ) (s : Session) (rows : Rows')
    → Along e i s rows [] (end_changes s.status s.held) (stopped e (finished_by s.status s rows))
end-along e i s rows =
    record {
      done = [];
      halt = AtEnd;
      tasks = refl;
      session = s;
      there = rows;
      does = (refl, refl);
      stops = tt;
      changes = sym (ap (λ b. end_changes b s.held) (end-status s.status s rows));
      seen = (refl, end-told s.status s rows);
      held = end-held s.status s.held;
    }

-- what waits does not refuse to
waits-no : (had nowait closes : Bool) → replied had nowait closes ≡ Waits → nowait ≡ false
waits-no true nowait closes e = absurd (let x : IsHad ≡ Waits = e in cc)
waits-no false true closes e = absurd (let x : Refused _ ≡ Waits = e in cc)
waits-no false false closes e = refl

go-along : (e : Scene) (i : ℕ) (s : Session) (rows : Rows') (ts : List Task) → Along e i s rows ts (go_changes e i s rows ts) (go e i s rows ts)
go-along e i s rows [] = end-along e i s rows
go-along e i s rows (Ask nowait r m ∷ ts) = at (is_broken s.status) (reply_in e i s nowait r m) refl refl (go-along e i (taking s r m) rows ts)
  where
    at : (b : Bool) (a : Reply) → is_broken s.status ≡ b → reply_in e i s nowait r m ≡ a
        → Along e i (taking s r m) rows ts (go_changes e i (taking s r m) rows ts) (go e i (taking s r m) rows ts)
        → (let x : Run = elim b [
          | true ↦ stopped e (failed s rows Aborted)
          | false ↦ elim a [ IsHad ↦ go e i (taking s r m) rows ts | Waits ↦ held_up e i s rows r m ts | Refused f ↦ stopped e (failed s rows f) ]
        ] in Along e i s rows (Ask nowait r m ∷ ts) (elim b [
          | true ↦ let_go s.held
          | false ↦ elim a [ IsHad ↦ Had r (wanted (get s.held r) m) ∷ go_changes e i (taking s r m) rows ts | Waits ↦ [] | Refused f ↦ let_go s.held ]
        ]) x)
    at true a broken is rec = fault-along e i s rows (Ask nowait r m) ts Aborted (inl broken)
    at false IsHad broken is rec =
        ask-along e i s rows nowait r m ts (go_changes e i (taking s r m) rows ts) (go e i (taking s r m) rows ts) broken (had-may _ nowait _ is) rec
    at false Waits broken is rec =
        record {
          done = [];
          halt = AtWait r m ts;
          tasks = ap (λ n. Ask n r m ∷ ts) (waits-no _ nowait _ is);
          session = s;
          there = rows;
          does = (refl, refl);
          stops = (broken, subst (λ n. reply_in e i s n r m ≡ Waits) (waits-no _ nowait _ is) is);
          changes = refl;
          seen = (refl, refl, fault-push s.transcript Waiting refl);
          held = tt;
        }
    at false (Refused f) broken is rec = fault-along e i s rows (Ask nowait r m) ts f (inr (f, is))
go-along e i s rows (Do st ∷ ts) = at (perform s rows st) refl (did-changed s.status (kind st) s rows st) (perform_by-no-fault s.status (kind st) s rows st)
    (λ s2 rows2. go-along e i s2 rows2 ts)
  where
    at : (p : Performed) → perform s rows st ≡ p → HeldAfter (changed s.held (did_changes (kind st) s.held)) p → NoFault s.transcript p
        → ((s2 : Session) (rows2 : Rows') → Along e i s2 rows2 ts (go_changes e i s2 rows2 ts) (go e i s2 rows2 ts))
        → (let x : Run = elim p [ Goes s2 rows2 ↦ go e i s2 rows2 ts | Fails f ↦ stopped e (failed s rows f) ] in
        Along e i s rows (Do st ∷ ts)
        (elim p [ Goes s2 rows2 ↦ did_changes (kind st) s.held ++ go_changes e i s2 rows2 ts | Fails f ↦ let_go s.held ]) x)
    at (Goes s2 rows2) made is told rec =
        do-along e i s s2 rows rows2 st ts (go_changes e i s2 rows2 ts) (go e i s2 rows2 ts) made is told (rec s2 rows2)
    at (Fails f) made is told rec = fault-along e i s rows (Do st) ts f (f, made)

-- ---- the moments of a line

idle-none : (ws : List Wait) (i : ℕ) → EachWait (λ v. v.session ≢ i) ws → waits_now ws i ≡ false
idle-none [] i idle = refl
idle-none (w ∷ ws) i idle =
    ap (λ b. b || waits_now ws i) (⊎_elim (λ h. absurd (idle.0 (eqb-true w.session i h))) (λ h. h) (known (w.session == i))) ∙ idle-none ws i idle.1

-- a session that goes, in a world where it does not wait
module _ (steps : List Step) (g : Going) (w : World) (t : List Event) (u : Session) (ts : List Task)
    (idle : EachWait (λ v. v.session ≢ session_by steps g.cause) w.waits)
    (none : tells_fault u.transcript ≡ false)
    (tasks : tasks_by steps g.world g.cause ≡ ts)
    (scene : scene_by g.world g.cause ≡ scene_of w)
    (starts : going_by steps g.world g.cause ≡ u)
    (rows : g.world.rows ≡ w.rows)
    (changes : changes_by steps g.world g.cause ≡ granted_by g.world g.cause ++ go_changes (scene_of w) (session_by steps g.cause) u w.rows ts)
    (begins : held_from steps g.world g.cause ≡ u.held)
    (granted : LetsGoOfHeld (session_at g.world (session_by steps g.cause)).held (granted_by g.world g.cause))
    (events : events_by steps g.world g.cause ≡ (go (scene_of w) (session_by steps g.cause) u w.rows ts).session.transcript)
    (waits : (behind steps g).waits ≡ (go (scene_of w) (session_by steps g.cause) (before t u) w.rows ts).waits)
    (there : session_at (behind steps g) (session_by steps g.cause) ≡ (go (scene_of w) (session_by steps g.cause) (before t u) w.rows ts).session) where
  abbrev its : Run
  its = go (scene_of w) (session_by steps g.cause) u w.rows ts

  now-waits : (behind steps g).waits ≡ its.waits
  now-waits = waits ∙ ap (λ (x : Run). x.waits) (go-before t (scene_of w) (session_by steps g.cause) u w.rows ts)

  now-stands : session_at (behind steps g) (session_by steps g.cause) ≡ before t its.session
  now-stands = there ∙ ap (λ (x : Run). x.session) (go-before t (scene_of w) (session_by steps g.cause) u w.rows ts)

  gone-quiet : its.waits ≡ w.waits → waits_now (behind steps g).waits (session_by steps g.cause) ≡ false
  gone-quiet e =
      ap (λ ws. waits_now ws (session_by steps g.cause)) (now-waits ∙ e) ∙ idle-none w.waits (session_by steps g.cause) idle

  seen : (halt : Halt) → StopsSo (scene_of w) (session_by steps g.cause) u.transcript its halt
      → IsSeenAt (behind steps g) (session_by steps g.cause) (events_by steps g.world g.cause) halt
  seen AtEnd x = (gone-quiet x.0, ap tells_fault events ∙ x.1 ∙ none)
  seen (AtWait resource mode rest) x =
      (w.waits, now-waits ∙ x.0, ap (λ (s : Session). s.rest) now-stands ∙ x.1, ap tells_fault events ∙ x.2 ∙ none)
  seen (AtFault task rest) x = (gone-quiet x.0, ap tells_fault events ∙ x.1)

  going-asked : AreAsked steps g
  going-asked =
      let x : Along (scene_of w) (session_by steps g.cause) u w.rows ts
      (go_changes (scene_of w) (session_by steps g.cause) u w.rows ts) its = go-along (scene_of w) (session_by steps g.cause) u w.rows ts in
      let front = granted_by g.world g.cause in
      let status = (session_at (behind steps g) (session_by steps g.cause)).status in
      record {
        done = x.done;
        halt = x.halt;
        tasks = tasks ∙ x.tasks;
        session = x.session;
        rows = x.there;
        does = subst (λ e. Does e (session_by steps g.cause) (going_by steps g.world g.cause) g.world.rows x.done x.session x.there) (sym scene)
            (subst (λ s. Does (scene_of w) (session_by steps g.cause) s g.world.rows x.done x.session x.there) (sym starts)
            (subst (λ z. Does (scene_of w) (session_by steps g.cause) u z x.done x.session x.there) (sym rows) x.does));
        stops = subst (λ e. StopsAt e (session_by steps g.cause) x.session x.there x.halt) (sym scene) x.stops;
        changes = changes
            ∙ ap (λ cs. front ++ cs) (x.changes
            ∙ ap (λ b. changes_along u.held x.done ++ let_go_at x.halt b (changed u.held (changes_along u.held x.done)))
            (sym (ap (λ (s : Session). s.status) now-stands)))
            ∙ ap (λ h. front ++ (changes_along h x.done ++ let_go_at x.halt status (changed h (changes_along h x.done)))) (sym begins);
        seen = seen x.halt x.seen;
        held = subst (LetsGoOfHeld (session_at g.world (session_by steps g.cause)).held) (sym changes)
            (held-append (session_at g.world (session_by steps g.cause)).held front (go_changes (scene_of w) (session_by steps g.cause) u w.rows ts) granted
            (subst (λ h. LetsGoOfHeld h (go_changes (scene_of w) (session_by steps g.cause) u w.rows ts)) (sym begins) x.held));
      }

pub locks-asked : LocksAreAsked
locks-asked steps = line-each steps (λ g. AreAskedBy steps g.world g.cause)
    (λ w k sound lt is.
    let i = (get_or steps k no_step).session in
    let ss = (get_or steps k no_step).statements in
    let en = entering w i (note (session_at w i) (Sent k)) (session_at w i).status ss (steady-of w sound) lt is refl refl in
    going-asked steps (record { world = w; cause = Sends k }) w (session_at w i).transcript (told_only (session_at w i) (Sent k)) (tasks_of (session_at w i).status ss)
    en.idle refl refl refl refl refl refl refl tt refl refl
    (session-there w i (go (scene_of w) i (note (session_at w i) (Sent k)) w.rows (tasks_of (session_at w i).status ss)) lt))
    (λ w spot st h.
    let i = spot.wait.session in
    let v = without w spot in
    let en = entering-granted w spot st h in
    going-asked steps (record { world = w; cause = GoesOn spot }) v (session_at w i).transcript (told_only (holding w spot) Resumed) (session_at w i).rest
    en.idle refl refl refl refl refl refl refl tt refl refl
    (session-there v i (go (scene_of v) i (note (holding w spot) Resumed) w.rows (session_at w i).rest) en.known))
    (λ w k sound lt is. refl)
