-- Sessions are told of their own steps alone.
use Rattle.std.specs.List.{All}
use Rattle.std.proofs.lemmas.List.Elements.{All-nil, All-cons, All-append, All-push}
use Rattle.std.proofs.lemmas.List.{get_or_past, get_or_default}
use Rattle.std.proofs.Common.{◌≡◌, ◌≢◌, refl, sym, ap, ◌∙◌, subst, ℕ, zero, suc, ◌<◌, ◌≤◌, Bool, true, false, List, [], ◌∷◌, ◌++◌, length, map, take, set}
use Rattle.std.proofs.Common.{get_or, Option, Some, None, ◌⊎◌, ⊎_elim, arith, inl, inr, length-set, get_or-set_same, get_or-set_other, not, ◌||◌}
use Rattle.lock_queues.specs.Locks.{Spot, next_grant, waits_now}
use Rattle.bound_statements.specs.declared.statement.Bound.{Bound}
use Rattle.bound_specs.specs.Spec.{Spec, Step, no_step, IsBound}
use Rattle.events.specs.Fits.{HasStep}
use Rattle.events.specs.declared.event.Event.{Event}
use Rattle.events.specs.declared.event.Event.TheVariants.{Sent, Row as RowEvent, Rows, Inserted, Updated, Deleted, Began, Committed, RolledBack, Locked}
use Rattle.events.specs.declared.event.Event.TheVariants.{Set, Warned, Failed, Waiting, Resumed, Done, NotSent}
use Rattle.events.specs.declared.event.Fault.{Fault}
use Rattle.events.specs.declared.event.Fault.TheVariants.{Aborted}
use Rattle.events.specs.declared.event.Warning.TheVariants.{InBlock as AlreadyInBlock, NoBlock}
use Rattle.lock_modes.specs.Rows.{Rows'}
use Rattle.row_tables.specs.Overlay.{lay}
use Rattle.statement_evaluation.specs.Effect.{Effect, Gives, Faults, effect}
use Rattle.machine_model.specs.declared.status.Status.{Status}
use Rattle.machine_model.specs.declared.status.Status.TheVariants.{Outside, InBlock, Broken}
use Rattle.machine_model.specs.Events.{is_effect}
use Rattle.machine_model.specs.Session.{Task, Ask, Do, Session, Kind, Begins, Commits, RollsBack, Works, kind, note, tasks_of, Performed, Goes, Fails, worked}
use Rattle.machine_model.specs.Session.{perform_by, perform}
use Rattle.machine_model.specs.Go.{Scene, Run, go, taking, is_broken, reply_in, finished_by, stopped, failed, held_up}
use Rattle.machine_model.specs.declared.reply.Reply.{Reply}
use Rattle.machine_model.specs.declared.reply.Reply.TheVariants.{Had, Waits, Refused}
use Rattle.machine_model.specs.World.{World, fresh, session_at, look_of, scene_of, noted, goes, granted, settle_for, settle, left_to_do, send, send_all}
use Rattle.machine_model.specs.World.{outcome_of}
use Rattle.machine_model.specs.Start.{Start, Started, SetupFailed, SessionSetupFailed, SessionSetupWaits, start, set_up, started_then, main_setups}
use Rattle.machine_model.specs.Start.{session_setups, after_setup, forgotten, has_failed, is_outside}
use Rattle.machine_model.specs.Sound.{Sound}
use Rattle.machine_model.specs.Outcome.{IsToldOf, IsOutcomeOf, TellsOwn}
use Rattle.machine_model.proofs.Basics.{cases-eq}
use Rattle.machine_model.proofs.Settles.{session-other}
use Rattle.machine_model.proofs.Starts.{OnStarted, first_world, get_or-replicate, start-sound, start-count}
use Rattle.machine_model.proofs.Counts.{bound-fits, line-count, line-sound}
use Rattle.machine_model.proofs.Telling.{AllEffects, TellsEffects, effect-tells}

module _ (steps : List Step) (o : ℕ) where
  abbrev Own : List Event → Type 0
  Own es = All (IsToldOf steps o) es

  effect-own : (e : Event) → is_effect e ≡ true → IsToldOf steps o e
  effect-own (Sent k) d = cc
  effect-own (RowEvent r) d = tt
  effect-own (Rows k) d = tt
  effect-own (Inserted k) d = tt
  effect-own (Updated k) d = tt
  effect-own (Deleted k) d = tt
  effect-own Began d = tt
  effect-own Committed d = tt
  effect-own RolledBack d = tt
  effect-own Locked d = tt
  effect-own Set d = tt
  effect-own (Warned w) d = tt
  effect-own (Failed f) d = tt
  effect-own Waiting d = tt
  effect-own Resumed d = tt
  effect-own Done d = tt
  effect-own (NotSent k) d = cc

  effects-own : (es : List Event) → AllEffects es → Own es
  effects-own [] d = All-nil (IsToldOf steps o)
  effects-own (e ∷ es) d = All-cons (IsToldOf steps o) e es (effect-own e d.0) (effects-own es d.1)

  push : (t : List Event) (e : Event) → IsToldOf steps o e → Own t → Own (t ++ e ∷ [])
  push t e h all = All-push (IsToldOf steps o) t e all h

  -- ---- a session goes

  abbrev OwnAfter : Performed → Type 0
  OwnAfter (Goes s rows) = Own s.transcript
  OwnAfter (Fails f) = Unit {0}

  worked-own : (s : Session) (rows : Rows') (f : Effect) → TellsEffects f → Own s.transcript → OwnAfter (worked s rows f)
  worked-own s rows (Gives events writes) d all = All-append (IsToldOf steps o) s.transcript events all (effects-own events d)
  worked-own s rows (Faults f) d all = tt

  perform_by-own : (b : Status) (k : Kind) (s : Session) (rows : Rows') (st : Bound) → Own s.transcript → OwnAfter (perform_by b k s rows st)
  perform_by-own Outside (Begins level) s rows st all = push s.transcript Began tt all
  perform_by-own (InBlock of) (Begins level) s rows st all = push (s.transcript ++ Warned AlreadyInBlock ∷ []) Began tt (push s.transcript (Warned AlreadyInBlock) tt all)
  perform_by-own Broken (Begins level) s rows st all = tt
  perform_by-own Outside Commits s rows st all = push (s.transcript ++ Warned NoBlock ∷ []) Committed tt (push s.transcript (Warned NoBlock) tt all)
  perform_by-own (InBlock of) Commits s rows st all = push s.transcript Committed tt all
  perform_by-own Broken Commits s rows st all = push s.transcript RolledBack tt all
  perform_by-own Outside RollsBack s rows st all = push (s.transcript ++ Warned NoBlock ∷ []) RolledBack tt (push s.transcript (Warned NoBlock) tt all)
  perform_by-own (InBlock of) RollsBack s rows st all = push s.transcript RolledBack tt all
  perform_by-own Broken RollsBack s rows st all = push s.transcript RolledBack tt all
  perform_by-own Outside Works s rows st all = worked-own s rows (effect st (lay s.overlay rows)) (effect-tells st (lay s.overlay rows)) all
  perform_by-own (InBlock of) Works s rows st all = worked-own s rows (effect st (lay s.overlay rows)) (effect-tells st (lay s.overlay rows)) all
  perform_by-own Broken Works s rows st all = tt

  failed-own : (t : List Event) (f : Fault) → Own t → Own (t ++ Failed f ∷ Done ∷ [])
  failed-own t f all =
      All-append (IsToldOf steps o) t (Failed f ∷ Done ∷ []) all
      (All-cons (IsToldOf steps o) (Failed f) (Done ∷ []) tt (All-cons (IsToldOf steps o) Done [] tt (All-nil (IsToldOf steps o))))

  finished-own : (b : Status) (s : Session) (rows : Rows') → Own s.transcript → Own (finished_by b s rows).session.transcript
  finished-own Outside s rows all = push s.transcript Done tt all
  finished-own (InBlock of) s rows all = push s.transcript Done tt all
  finished-own Broken s rows all = push s.transcript Done tt all

  go-own : (e : Scene) (i : ℕ) (s : Session) (rows : Rows') (ts : List Task) → Own s.transcript → Own (go e i s rows ts).session.transcript
  go-own e i s rows [] all = finished-own s.status s rows all
  go-own e i s rows (Ask n r m ∷ ts) all = at (is_broken s.status) (reply_in e i s n r m) (go-own e i (taking s r m) rows ts all)
    where
      at : (b : Bool) (a : Reply) → Own (go e i (taking s r m) rows ts).session.transcript
          → let x : Run = elim b [
            | true ↦ stopped e (failed s rows Aborted)
            | false ↦ elim a [
              | Had ↦ go e i (taking s r m) rows ts
              | Waits ↦ held_up e i s rows r m ts
              | Refused f ↦ stopped e (failed s rows f)
            ]
          ] in
          Own x.session.transcript
      at true a rec = failed-own s.transcript Aborted all
      at false Had rec = rec
      at false Waits rec = push s.transcript Waiting tt all
      at false (Refused f) rec = failed-own s.transcript f all
  go-own e i s rows (Do st ∷ ts) all = at (perform s rows st) (perform_by-own s.status (kind st) s rows st all) (λ s2 rows2. go-own e i s2 rows2 ts)
    where
      at : (p : Performed) → OwnAfter p → ((s2 : Session) (rows2 : Rows') → Own s2.transcript → Own (go e i s2 rows2 ts).session.transcript)
          → let x : Run = elim p [ Goes s2 rows2 ↦ go e i s2 rows2 ts | Fails f ↦ stopped e (failed s rows f) ] in
          Own x.session.transcript
      at (Goes s2 rows2) own rec = rec s2 rows2 own
      at (Fails f) own rec = failed-own s.transcript f all

-- ---- a world

-- where a session that was told of its own steps takes its place, all are told so
set-own : (steps : List Step) (ss : List Session) (i : ℕ) (s : Session) → All (IsToldOf steps i) s.transcript
    → ((c : ℕ) → All (IsToldOf steps c) (get_or ss c fresh).transcript) → (c : ℕ) → All (IsToldOf steps c) (get_or (set ss i s) c fresh).transcript
set-own steps ss i s own all c = ⊎_elim there (λ ne. subst (λ (x : Session). All (IsToldOf steps c) x.transcript) (sym (get_or-set_other ss i c s fresh ne))
    (all c)) (cases-eq c i)
  where
    within : c ≡ i → (i < length ss) ⊎ (length ss ≤ i) → All (IsToldOf steps i) (get_or (set ss i s) i fresh).transcript
    within is cases =
        ⊎_elim (λ lt. subst (λ (x : Session). All (IsToldOf steps i) x.transcript) (sym (get_or-set_same ss i s fresh lt)) own)
        (λ le. subst (λ (x : Session). All (IsToldOf steps i) x.transcript)
        (sym (get_or_past (set ss i s) i fresh (subst (λ n. n ≤ i) (sym (length-set ss i s)) le)))
        (All-nil (IsToldOf steps i))) cases

    there : c ≡ i → All (IsToldOf steps c) (get_or (set ss i s) c fresh).transcript
    there is = subst (λ d. All (IsToldOf steps d) (get_or (set ss i s) d fresh).transcript) (sym is) (within is (grind arith))

goes-own : (steps : List Step) (w : World) (i : ℕ) (s : Session) (ts : List Task) → TellsOwn steps w → All (IsToldOf steps i) s.transcript
    → TellsOwn steps (goes w i s ts)
goes-own steps w i s ts all own = set-own steps w.sessions i (go (scene_of w) i s w.rows ts).session (go-own steps i (scene_of w) i s w.rows ts own) all

granted-own : (steps : List Step) (w : World) (spot : Spot) → TellsOwn steps w → TellsOwn steps (granted w spot)
granted-own steps w spot all =
    let i = spot.wait.session in
    let s = session_at w i in
    goes-own steps (record w { waits = spot.before ++ spot.after }) i (note (record (taking s spot.wait.resource spot.wait.mode) { rest = [] }) Resumed) s.rest
    all
    (push steps i s.transcript Resumed tt (all i))

settle_for-own : (steps : List Step) (k : ℕ) (w : World) → TellsOwn steps w → TellsOwn steps (settle_for k w)
settle_for-own steps zero w all = all
settle_for-own steps (suc k) w all = at (next_grant (length w.sessions) (look_of w) w.waits) (λ spot.
    settle_for-own steps k (granted w spot) (granted-own steps w spot all))
  where
    at : (o : Option Spot) → ((spot : Spot) → TellsOwn steps (settle_for k (granted w spot)))
        → TellsOwn steps (elim o [ None ↦ w | Some spot ↦ settle_for k (granted w spot) ])
    at None rec = all
    at (Some spot) rec = rec spot

-- a step that is sent is told to its own session
pub send-own : (steps : List Step) (w : World) (k : ℕ) → k < length steps → TellsOwn steps w → TellsOwn steps (send steps w k)
send-own steps w k lt all = at (waits_now w.waits i)
  where
    i : ℕ
    i = (get_or steps k no_step).session

    s : Session
    s = session_at w i

    at : (b : Bool) → TellsOwn steps (elim b [
      | true ↦ noted w i (NotSent k)
      | false ↦ settle
          (goes w i (note s (Sent k)) (tasks_of s.status (get_or steps k no_step).statements))
    ])
    at true = set-own steps w.sessions i (note s (NotSent k)) (push steps i s.transcript (NotSent k) (lt, refl) (all i)) all
    at false =
        let v = goes w i (note s (Sent k)) (tasks_of s.status (get_or steps k no_step).statements) in
        settle_for-own steps (left_to_do v) v (goes-own steps w i (note s (Sent k)) (tasks_of s.status (get_or steps k no_step).statements) all
        (push steps i s.transcript (Sent k) (lt, refl) (all i)))

-- ---- outcomes

transcript-at : (n i : ℕ) (ss : List Session) → (P : List Event → Type 0) → P [] → P (get_or ss i fresh).transcript
    → P (get_or (map (λ (s : Session). s.transcript) (take n ss)) i [])
transcript-at zero i ss P none some = none
transcript-at (suc n) i [] P none some = none
transcript-at (suc n) zero (s ∷ ss) P none some = some
transcript-at (suc n) (suc i) (s ∷ ss) P none some = transcript-at n i ss P none some

transcript-count : (n : ℕ) (ss : List Session) → n ≤ length ss → length (map (λ (s : Session). s.transcript) (take n ss)) ≡ n
transcript-count zero ss le = refl
transcript-count (suc n) [] le = absurd (omega arith)
transcript-count (suc n) (s ∷ ss) le = ap suc (transcript-count n ss (omega arith))

-- what a world of the spec tells is an outcome of it
pub outcome-own : (spec : Spec) (w : World) → length w.sessions ≡ suc spec.sessions → TellsOwn spec.steps w → IsOutcomeOf spec (outcome_of spec.sessions w)
outcome-own spec w count all = record {
  each = transcript-count spec.sessions w.sessions (omega (arith, count));
  own = λ i. transcript-at spec.sessions i w.sessions (λ es. All (IsToldOf spec.steps i) es) (All-nil (IsToldOf spec.steps i)) (all i);
}

told-named : (steps : List Step) (i : ℕ) (e : Event) → IsToldOf steps i e → HasStep (length steps) e
told-named steps i (Sent k) h = h.0
told-named steps i (RowEvent r) h = tt
told-named steps i (Rows n) h = tt
told-named steps i (Inserted n) h = tt
told-named steps i (Updated n) h = tt
told-named steps i (Deleted n) h = tt
told-named steps i Began h = tt
told-named steps i Committed h = tt
told-named steps i RolledBack h = tt
told-named steps i Locked h = tt
told-named steps i Set h = tt
told-named steps i (Warned w) h = tt
told-named steps i (Failed f) h = tt
told-named steps i Waiting h = tt
told-named steps i Resumed h = tt
told-named steps i Done h = tt
told-named steps i (NotSent k) h = h.0

-- an outcome of the spec names steps of the spec
pub outcome-named : (spec : Spec) (outcome : List (List Event)) → IsOutcomeOf spec outcome → All (All (HasStep (length spec.steps))) outcome
outcome-named spec outcome is = λ i d lt. λ j e less.
    told-named spec.steps i (get_or (get_or outcome i d) j e)
    (subst (λ (es : List Event). All (IsToldOf spec.steps i) es) (get_or_default outcome i [] d lt) (is.own i) j e less)

-- ---- from the start of a spec

abbrev pub Silent : World → Type 0
Silent w = (c : ℕ) → (session_at w c).transcript ≡ []

-- a setup leaves no trace in transcripts
setup-silent : (w : World) (i : ℕ) (block : List Bound) → Silent w → Silent (forgotten (after_setup w i block) i)
setup-silent w i block all c = ⊎_elim there other (cases-eq c i)
  where
    v : World
    v = after_setup w i block

    s : Session
    s = record (session_at v i) { transcript = [] }

    there : c ≡ i → (session_at (forgotten v i) c).transcript ≡ []
    there is = subst (λ d. (get_or (set v.sessions i s) d fresh).transcript ≡ []) (sym is) (within (grind arith))
      where
        within : (i < length v.sessions) ⊎ (length v.sessions ≤ i) → (get_or (set v.sessions i s) i fresh).transcript ≡ []
        within (inl lt) = ap (λ (x : Session). x.transcript) (get_or-set_same v.sessions i s fresh lt)
        within (inr le) = ap (λ (x : Session). x.transcript) (get_or_past (set v.sessions i s) i fresh
            (subst (λ n. n ≤ i) (sym (length-set v.sessions i s)) le))

    other : c ≢ i → (session_at (forgotten v i) c).transcript ≡ []
    other ne =
        ap (λ (x : Session). x.transcript) (get_or-set_other v.sessions i c s fresh ne)
        ∙ ap (λ (x : Session). x.transcript) (session-other w i c (go (scene_of w) i (session_at w i) w.rows (tasks_of (session_at w i).status block)) ne) ∙ all c

main-silent : (control k : ℕ) (w : World) (blocks : List (List Bound)) → Silent w → OnStarted (main_setups control k w blocks) Silent
main-silent control k w [] all = all
main-silent control k w (block ∷ blocks) all =
    at (has_failed (session_at (after_setup w control block) control) || not (is_outside (session_at (after_setup w control block) control).status))
    (main-silent control (suc k) (forgotten (after_setup w control block) control) blocks (setup-silent w control block all))
  where
    rest : Start
    rest = main_setups control (suc k) (forgotten (after_setup w control block) control) blocks

    at : (b : Bool) → OnStarted rest Silent → OnStarted (elim b [ true ↦ SetupFailed k | false ↦ rest ]) Silent
    at true rec = tt
    at false rec = rec

own-silent : (i : ℕ) (w : World) (blocks : List (List Bound)) → Silent w → OnStarted (session_setups i w blocks) Silent
own-silent i w [] all = all
own-silent i w (block ∷ blocks) all =
    at (has_failed (session_at (after_setup w i block) i)) (waits_now (after_setup w i block).waits i)
    (own-silent (suc i) (forgotten (after_setup w i block) i) blocks (setup-silent w i block all))
  where
    rest : Start
    rest = session_setups (suc i) (forgotten (after_setup w i block) i) blocks

    at : (b d : Bool) → OnStarted rest Silent
        → OnStarted (elim b [ true ↦ SessionSetupFailed i | false ↦ elim d [ true ↦ SessionSetupWaits i | false ↦ rest ] ]) Silent
    at true d rec = tt
    at false true rec = tt
    at false false rec = rec

then-silent : (s : Start) (f : World → Start) → OnStarted s Silent → ((w : World) → Silent w → OnStarted (f w) Silent) → OnStarted (started_then s f) Silent
then-silent (Started w) f h rec = rec w h
then-silent (SetupFailed n) f h rec = tt
then-silent (SessionSetupFailed n) f h rec = tt
then-silent (SessionSetupWaits n) f h rec = tt

-- a spec starts with nothing told
pub start-silent : (spec : Spec) (w : World) → start spec ≡ Started w → Silent w
start-silent spec w e =
    subst (λ s. OnStarted s Silent) e
    (then-silent (set_up spec) (λ v. session_setups 0 v spec.session_setups)
    (main-silent spec.sessions 0 (first_world spec.sessions) spec.setups (λ c.
    ap (λ (s : Session). s.transcript) (get_or-replicate (suc spec.sessions) c fresh)))
    (λ v h. own-silent 0 v spec.session_setups h))

line-own : (steps : List Step) (w : World) (ks : List ℕ) → All (λ k. k < length steps) ks → TellsOwn steps w → TellsOwn steps (send_all steps w ks)
line-own steps w [] known all = all
line-own steps w (k ∷ ks) known all = line-own steps (send steps w k) ks (λ i d lt. known (suc i) d (omega arith))
    (send-own steps w k (known 0 0 (omega arith)) all)

-- in each world of a line, what is told is an outcome of the spec
pub lines-own : (spec : Spec) (w : World) (ks : List ℕ) → IsBound spec → start spec ≡ Started w → All (λ k. k < length spec.steps) ks
    → IsOutcomeOf spec (outcome_of spec.sessions (send_all spec.steps w ks))
lines-own spec w ks bound e known =
    outcome-own spec (send_all spec.steps w ks) (line-count spec.steps w ks ∙ start-count spec w bound.session_setups e)
    (line-own spec.steps w ks known (λ i. subst (λ (es : List Event). All (IsToldOf spec.steps i) es) (sym (start-silent spec w e i))
    (All-nil (IsToldOf spec.steps i))))

-- every world of a line is sound, with a part for each session and the control session
pub lines-sound : (spec : Spec) (w : World) (ks : List ℕ) → IsBound spec → start spec ≡ Started w
    → Sound (send_all spec.steps w ks) × (length (send_all spec.steps w ks).sessions ≡ suc spec.sessions)
lines-sound spec w ks bound e = (
  line-sound spec.steps w ks (start-sound spec w bound.session_setups e) (bound-fits spec w bound e),
  line-count spec.steps w ks ∙ start-count spec w bound.session_setups e,
)
