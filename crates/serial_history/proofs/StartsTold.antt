-- The history of a line from the start of its spec.
use Rattle.std.proofs.Common.{◌≡◌, refl, sym, ap, ◌∙◌, subst, ℕ, suc, ◌+◌, ◌<◌, ◌≤◌, Bool, true, false, not, ◌||◌, List, [], ◌∷◌, length, get_or, ⊎_elim, arith}
use Rattle.std.proofs.Common.{length-set, get_or-set_same, get_or-set_other}
use Rattle.finite_maps.specs.Map.{get, empty, get-empty}
use Rattle.lock_modes.specs.Resource.{resource_order}
use Rattle.lock_modes.specs.Rows.{Rows'}
use Rattle.lock_queues.specs.Locks.{waits_now}
use Rattle.machine_model.specs.Session.{Task, Ask, Do, Session, Performed, Goes, Fails, perform, tasks_of}
use Rattle.machine_model.specs.Go.{Run, Stop, taking, is_broken, solo, failed, finished_by, stopped, go}
use Rattle.machine_model.specs.World.{World, fresh, session_at, scene_of, send_all}
use Rattle.bound_specs.specs.Spec.{Spec, no_step, IsBound}
use Rattle.machine_model.specs.Start.{Start, Started, SetupFailed, SessionSetupFailed, SessionSetupWaits, start, set_up, started_then, main_setups}
use Rattle.machine_model.specs.Start.{session_setups, after_setup, forgotten, has_failed, is_outside, IsAlone, IsIdle}
use Rattle.serial_history.specs.Serial.{Shown, reading_in, reading_of, session_setups_said, after_setups, AllTell, EndedTell, commits_of, committed_in, Repeats}
use Rattle.serial_history.specs.Serial.{Told, IsWhole, locked_work, locked_part, History, no_history, goes_told, session_setups_told, first_rows, start_told, send_all_told}
use Rattle.serial_history.specs.Reading.{Reading, nothing_read, read}
use Rattle.events.specs.declared.event.Fault.TheVariants.{Aborted}
use Rattle.lock_modes.specs.declared.mode.Mode.{Mode}
use Rattle.machine_model.specs.declared.status.Status.{Status}
use Rattle.machine_model.specs.declared.status.Status.TheVariants.{Outside, InBlock, Broken}
use Rattle.bound_statements.specs.declared.statement.Bound.{Bound}
use Rattle.machine_model.proofs.Solo.{go-solo}
use Rattle.machine_model.proofs.Basics.{cases-eq}
use Rattle.machine_model.proofs.Fitting.{together-fits}
use Rattle.machine_model.proofs.Settles.{entering, session-there, session-other, touched-same}
use Rattle.machine_model.proofs.Starts.{OnStarted, first_world, first-steady, get_or-replicate, length_replicate, all-free, alone-goes, alone-forgets}
use Rattle.machine_model.proofs.Starts.{idle-goes, idle-now, start-sound}
use Rattle.serial_history.proofs.Readings.{read-append}
use Rattle.serial_history.proofs.Shown.{goes-shown, line-shown}
use Rattle.serial_history.proofs.SerialLine.{Heir, heir-told, goes-tells, told-touched, line-tells}
use Rattle.serial_history.proofs.Wholes.{whole-told}
use Rattle.machine_model.proofs.Counts.{bound-fits}

abbrev ClearOutside : Session → Type 0
ClearOutside s = is_outside s.status ≡ true → s.overlay ≡ empty

finished-clear : (status : Status) (s : Session) (rows : Rows') → s.status ≡ status → ClearOutside (finished_by status s rows).session
finished-clear Outside s rows is out = refl
finished-clear (InBlock of) s rows is out = absurd (let e : is_outside (InBlock of) ≡ true = sym (ap is_outside is) ∙ out in cc)
finished-clear Broken s rows is out = absurd (let e : is_outside Broken ≡ true = sym (ap is_outside is) ∙ out in cc)

solo-clear : (s : Session) (rows : Rows') (ts : List Task) → ClearOutside (solo s rows ts).session
solo-clear s rows [] = finished-clear s.status s rows refl
solo-clear s rows (Ask n r m ∷ ts) =
    elim (is_broken s.status) as (λ b. ClearOutside (let x : Stop = elim b [
      | true ↦ failed s rows Aborted
      | false ↦ solo (taking s r m) rows ts
    ] in x.session)) [ true ↦ λ out. refl | false ↦ solo-clear (taking s r m) rows ts ]
solo-clear s rows (Do st ∷ ts) = done (perform s rows st) (λ s2 rows2. solo-clear s2 rows2 ts)
  where
    done : (d : Performed) → ((s2 : Session) (rows2 : Rows') → ClearOutside (solo s2 rows2 ts).session)
        → ClearOutside (let x : Stop = elim d [ Goes s2 rows2 ↦ solo s2 rows2 ts | Fails f ↦ failed s rows f ] in x.session)
    done (Goes s2 rows2) rec = rec s2 rows2
    done (Fails f) rec = λ out. refl

-- ---- main setups

alone-clear : (control n : ℕ) (w : World) (block : List Bound) → control < n → IsAlone control n w
    → ClearOutside (session_at (after_setup w control block) control)
alone-clear control n w block lt a =
    let s = session_at w control in
    let free = all-free (scene_of w) control (λ c r ne. ap (λ (x : Session). get x.held r) (a.others c ne) ∙ get-empty resource_order Mode r) a.idle
    (tasks_of s.status block) in
    let gone : go (scene_of w) control s w.rows (tasks_of s.status block)
    ≡ stopped (scene_of w) (solo s w.rows (tasks_of s.status block)) = go-solo (scene_of w) control s w.rows (tasks_of s.status block) free
    (together-fits w a.steady.together control) in
    let there : session_at (after_setup w control block) control ≡ (solo s w.rows (tasks_of s.status block)).session =
    session-there w control (go (scene_of w) control s w.rows (tasks_of s.status block)) (subst (λ k. control < k) (sym a.count) lt)
    ∙ ap (λ (r : Run). r.session) gone in
    subst ClearOutside (sym there) (solo-clear s w.rows (tasks_of s.status block))

no-or : (a b : Bool) → (a || not b) ≡ false → b ≡ true
no-or true b e = cc
no-or false true e = refl
no-or false false e = cc

pub record SetUp (control n : ℕ) (w : World) : Type 0 where
  pub alone : IsAlone control n w
  pub clear : (session_at w control).overlay ≡ empty
  pub blank : (session_at w control).transcript ≡ []
  pub outside : (session_at w control).status ≡ Outside

outside-is : (k : Status) → is_outside k ≡ true → k ≡ Outside
outside-is Outside e = refl
outside-is (InBlock of) e = cc
outside-is Broken e = cc

main-set-up : (control n k : ℕ) (w : World) (blocks : List (List Bound)) → control < n → SetUp control n w
    → OnStarted (main_setups control k w blocks) (SetUp control n)
main-set-up control n k w [] lt a = a
main-set-up control n k w (block ∷ blocks) lt a =
    at (has_failed (session_at w2 control) || not (is_outside (session_at w2 control).status)) refl
    (λ clear outside. main-set-up control n (suc k) (forgotten w2 control) blocks lt
    (record {
      alone = alone-forgets control n w2 (alone-goes control n w block lt a.alone);
      clear = clear;
      blank = ap (λ (x : Session). x.transcript) forgot;
      outside = outside;
    }))
  where
    w2 : World
    w2 = after_setup w control block

    here : control < length w2.sessions
    here = subst (λ m. control < m) (sym (alone-goes control n w block lt a.alone).count) lt

    forgot : session_at (forgotten w2 control) control ≡ record (session_at w2 control) { transcript = [] }
    forgot = get_or-set_same w2.sessions control (record (session_at w2 control) { transcript = [] }) fresh here

    at : (b : Bool) → (has_failed (session_at w2 control) || not (is_outside (session_at w2 control).status)) ≡ b
        → ((session_at (forgotten w2 control) control).overlay ≡ empty → (session_at (forgotten w2 control) control).status ≡ Outside
        → OnStarted (main_setups control (suc k) (forgotten w2 control) blocks) (SetUp control n))
        → OnStarted (elim b [ true ↦ SetupFailed k | false ↦ main_setups control (suc k) (forgotten w2 control) blocks ]) (SetUp control n)
    at true is rec = tt
    at false is rec =
        let out = no-or (has_failed (session_at w2 control)) (is_outside (session_at w2 control).status) is in
        rec (ap (λ (x : Session). x.overlay) forgot ∙ alone-clear control n w block lt a.alone out)
        (ap (λ (x : Session). x.status) forgot ∙ outside-is (session_at w2 control).status out)

pub set-up-is : (spec : Spec) → OnStarted (set_up spec) (SetUp spec.sessions (suc spec.sessions))
set-up-is spec = main-set-up spec.sessions (suc spec.sessions) 0 (first_world spec.sessions) spec.setups (omega arith) (record {
  alone = record {
    steady = first-steady spec.sessions;
    idle = refl;
    others = λ c ne. get_or-replicate (suc spec.sessions) c fresh;
    count = length_replicate (suc spec.sessions) fresh;
  };
  clear = ap (λ (s : Session). s.overlay) (get_or-replicate (suc spec.sessions) spec.sessions fresh);
  blank = ap (λ (s : Session). s.transcript) (get_or-replicate (suc spec.sessions) spec.sessions fresh);
  outside = ap (λ (s : Session). s.status) (get_or-replicate (suc spec.sessions) spec.sessions fresh);
})

-- ---- session setups

told-first : (n : ℕ) (control : ℕ) (w : World) → SetUp control n w → Heir w.rows w (no_history n)
told-first n control w a =
    record {
      serial = refl;
      each = λ c. subst (λ ds. Repeats w.rows (session_at w c) (locked_work ds)) (sym (get_or-replicate n c [])) (record { replay = sym (clear c); held = tt });
      count = length_replicate n [] ∙ sym a.alone.count;
    }
  where
    clear : (c : ℕ) → (session_at w c).overlay ≡ empty
    clear c = ⊎_elim (λ k. ap (λ d. (session_at w d).overlay) k ∙ a.clear) (λ ne. ap (λ (s : Session). s.overlay) (a.alone.others c ne)) (cases-eq c control)

sessions-told : (first : Rows') (n i : ℕ) (w : World) (blocks : List (List Bound)) (h : History) → i + length blocks ≤ n → IsIdle n w → Heir first w h
    → OnStarted (session_setups i w blocks) (λ v. Heir first v (session_setups_told i w blocks h))
sessions-told first n i w [] h le a told = told
sessions-told first n i w (block ∷ blocks) h le a told =
    at (has_failed (session_at (after_setup w i block) i)) (waits_now (after_setup w i block).waits i) refl
    (λ still. sessions-told first n (suc i) (forgotten (after_setup w i block) i) blocks (goes_told w i (session_at w i) (tasks_of (session_at w i).status block) h) (omega arith)
    (idle-goes n i w block (omega arith) a still)
    (told-touched first (after_setup w i block) (goes_told w i (session_at w i) (tasks_of (session_at w i).status block) h) i
    (record (session_at (after_setup w i block) i) { transcript = [] }) refl refl
    (goes-tells first w h i (session_at w i) (tasks_of (session_at w i).status block)
    (entering w i (session_at w i) (session_at w i).status block a.steady (subst (λ k. i < k) (sym a.count) (omega arith)) (idle-now w i a.idle) refl refl) told
    (told.each i))))
  where
    at : (b c : Bool) → waits_now (after_setup w i block).waits i ≡ c
        → (waits_now (after_setup w i block).waits i ≡ false → OnStarted (session_setups (suc i) (forgotten (after_setup w i block) i) blocks)
        (λ v. Heir first v (session_setups_told (suc i) (forgotten (after_setup w i block) i) blocks
        (goes_told w i (session_at w i) (tasks_of (session_at w i).status block) h))))
        → OnStarted (elim b [
          | true ↦ SessionSetupFailed i
          | false ↦ elim c [
            | true ↦ SessionSetupWaits i
            | false ↦ session_setups (suc i) (forgotten (after_setup w i block) i) blocks
          ]
        ])
        (λ v. Heir first v (session_setups_told (suc i) (forgotten (after_setup w i block) i) blocks
        (goes_told w i (session_at w i) (tasks_of (session_at w i).status block) h)))
    at true c is rec = tt
    at false true is rec = tt
    at false false is rec = rec is

start-tells : (spec : Spec) → length spec.session_setups ≤ spec.sessions → OnStarted (start spec) (λ w. Heir (first_rows spec) w (start_told spec))
start-tells spec le = at (set_up spec) (set-up-is spec)
  where
    at : (s : Start) → OnStarted s (SetUp spec.sessions (suc spec.sessions))
        → OnStarted (started_then s (λ w. session_setups 0 w spec.session_setups))
        (λ w. Heir (elim s [ Started w ↦ w.rows | _ ↦ empty ]) w
        (elim s [ Started w ↦ session_setups_told 0 w spec.session_setups (no_history (suc spec.sessions)) | _ ↦ no_history 0 ]))
    at (Started w) a = sessions-told w.rows (suc spec.sessions) 0 w spec.session_setups (no_history (suc spec.sessions)) (omega arith)
        (record { steady = a.alone.steady; idle = a.alone.idle; count = a.alone.count }) (told-first (suc spec.sessions) spec.sessions w a)
    at (SetupFailed n) a = tt
    at (SessionSetupFailed n) a = tt
    at (SessionSetupWaits n) a = tt

pub spec-serial : (spec : Spec) (w : World) (ks : List ℕ) → length spec.session_setups ≤ spec.sessions → start spec ≡ Started w
    → ((k : ℕ) → (get_or spec.steps k no_step).session < length w.sessions)
    → Heir (first_rows spec) (send_all spec.steps w ks) (send_all_told spec.steps w ks (start_told spec))
spec-serial spec w ks le e fit =
    let told : Heir (first_rows spec) w (start_told spec) = subst (λ s. OnStarted s (λ v. Heir (first_rows spec) v (start_told spec))) e
    (start-tells spec le) in
    line-tells (first_rows spec) spec.steps w ks (start_told spec) (start-sound spec w le e) fit told

-- ---- what the session setups show

-- the transcripts are forgotten, each session stands there, and the commits are told
record Forgot (from : ℕ → Reading) (w : World) (h : History) : Type 0 where
  blank : (c : ℕ) → (session_at w c).transcript ≡ []
  stands : (c : ℕ) → reading_in w h c ≡ from c
  tells : (c : ℕ) → AllTell (get_or h.works c [])
  told : (c : ℕ) → EndedTell (get_or h.ended c [])
  owns : (c : ℕ) → commits_of c h.commits ≡ committed_in (get_or h.ended c [])
  count_works : length h.works ≡ length w.sessions
  count_ended : length h.ended ≡ length w.sessions

shown-forgot : (from : ℕ → Reading) (w : World) (h : History) → Forgot from w h → Shown from w h
shown-forgot from w h x =
    record {
      reads = λ c. x.stands c ∙ ap (read (from c)) (sym (x.blank c));
      tells = x.tells;
      told = x.told;
      owns = x.owns;
      count_works = x.count_works;
      count_ended = x.count_ended;
    }

forgot-first : (n : ℕ) (control : ℕ) (w : World) → SetUp control n w → Forgot (λ c. nothing_read) w (no_history n)
forgot-first n control w a =
    record {
      blank = λ c. ⊎_elim (λ k. ap (λ d. (session_at w d).transcript) k ∙ a.blank) (λ ne. ap (λ (s : Session). s.transcript) (a.alone.others c ne))
          (cases-eq c control);
      stands = λ c. λ j. reading_of (outside c j) (get_or-replicate n c [] j) (get_or-replicate n c [] j);
      tells = λ c. subst AllTell (sym (get_or-replicate n c [])) tt;
      told = λ c. subst EndedTell (sym (get_or-replicate n c [])) tt;
      owns = λ c. ap committed_in (sym (get_or-replicate n c []));
      count_works = length_replicate n [] ∙ sym a.alone.count;
      count_ended = length_replicate n [] ∙ sym a.alone.count;
    }
  where
    outside : (c : ℕ) → (session_at w c).status ≡ Outside
    outside c = ⊎_elim (λ k. ap (λ d. (session_at w d).status) k ∙ a.outside) (λ ne. ap (λ (s : Session). s.status) (a.alone.others c ne)) (cases-eq c control)

-- one session's setup more: each session stands where what it was told leads
forgot-goes : (from : ℕ → Reading) (w : World) (i : ℕ) (block : List Bound) (h : History) → i < length w.sessions → Forgot from w h
    → Forgot (λ c. read (from c) (session_at (after_setup w i block) c).transcript) (forgotten (after_setup w i block) i)
    (goes_told w i (session_at w i) (tasks_of (session_at w i).status block) h)
forgot-goes from w i block h lt x =
    let w2 : World = after_setup w i block in
    let h2 : History = goes_told w i (session_at w i) (tasks_of (session_at w i).status block) h in
    let s2 : Session = record (session_at w2 i) { transcript = [] } in
    let gone : Run = go (scene_of w) i (session_at w i) w.rows (tasks_of (session_at w i).status block) in
    let y : Shown from w2 h2 = goes-shown from w h i (session_at w i) (tasks_of (session_at w i).status block) lt refl refl (shown-forgot from w h x) in
    record {
      blank = λ c. ⊎_elim
          (λ k. ap (λ d. (session_at (forgotten w2 i) d).transcript) k
          ∙ ap (λ (s : Session). s.transcript)
          (get_or-set_same w2.sessions i s2 fresh (subst (λ n. i < n) (sym (length-set w.sessions i gone.session)) lt)))
          (λ ne. ap (λ (s : Session). s.transcript) (get_or-set_other w2.sessions i c s2 fresh ne)
          ∙ ap (λ (s : Session). s.transcript) (session-other w i c gone ne) ∙ x.blank c)
          (cases-eq c i);
      stands = λ c. touched-same w2 i c s2
          (λ z. reading_of z.status (get_or h2.works c []) (get_or h2.ended c []) ≡ read (from c) (session_at w2 c).transcript) (λ p. p) (y.reads c);
      tells = y.tells;
      told = y.told;
      owns = y.owns;
      count_works = y.count_works ∙ sym (length-set w2.sessions i s2);
      count_ended = y.count_ended ∙ sym (length-set w2.sessions i s2);
    }

sessions-forgot : (n i : ℕ) (from : ℕ → Reading) (w : World) (blocks : List (List Bound)) (h : History) → i + length blocks ≤ n → IsIdle n w → Forgot from w h
    → OnStarted (session_setups i w blocks) (λ v. Forgot (λ c. read (from c) (session_setups_said i w blocks c)) v (session_setups_told i w blocks h))
sessions-forgot n i from w [] h le a x = x
sessions-forgot n i from w (block ∷ blocks) h le a x =
    at (has_failed (session_at w2 i)) (waits_now w2.waits i) refl
    (λ still. subst (λ f. OnStarted (session_setups (suc i) (forgotten w2 i) blocks) (λ v. Forgot f v (session_setups_told (suc i) (forgotten w2 i) blocks h2)))
    (λ j c. sym (read-append (from c) (session_at w2 c).transcript (session_setups_said (suc i) (forgotten w2 i) blocks c)) j)
    (sessions-forgot n (suc i) (λ c. read (from c) (session_at w2 c).transcript) (forgotten w2 i) blocks h2 (omega arith)
    (idle-goes n i w block (omega arith) a still)
    (forgot-goes from w i block h (subst (λ k. i < k) (sym a.count) (omega arith)) x)))
  where
    w2 : World
    w2 = after_setup w i block

    h2 : History
    h2 = goes_told w i (session_at w i) (tasks_of (session_at w i).status block) h

    Then : World → Type 0
    Then v = Forgot (λ c. read (from c) (session_setups_said i w (block ∷ blocks) c)) v (session_setups_told (suc i) (forgotten w2 i) blocks h2)

    at : (b c : Bool) → waits_now w2.waits i ≡ c → (waits_now w2.waits i ≡ false → OnStarted (session_setups (suc i) (forgotten w2 i) blocks) Then)
        → OnStarted (elim b [
          | true ↦ SessionSetupFailed i
          | false ↦ elim c [
            | true ↦ SessionSetupWaits i
            | false ↦ session_setups (suc i) (forgotten w2 i) blocks
          ]
        ])
        Then
    at true c is rec = tt
    at false true is rec = tt
    at false false is rec = rec is

start-forgot : (spec : Spec) → length spec.session_setups ≤ spec.sessions → OnStarted (start spec) (λ w. Forgot (after_setups spec) w (start_told spec))
start-forgot spec le = at (set_up spec) (set-up-is spec)
  where
    at : (s : Start) → OnStarted s (SetUp spec.sessions (suc spec.sessions))
        → OnStarted (started_then s (λ w. session_setups 0 w spec.session_setups))
        (λ w. Forgot (λ c. read nothing_read (elim s [ Started v ↦ session_setups_said 0 v spec.session_setups c | _ ↦ [] ])) w
        (elim s [ Started w ↦ session_setups_told 0 w spec.session_setups (no_history (suc spec.sessions)) | _ ↦ no_history 0 ]))
    at (Started w) a = sessions-forgot (suc spec.sessions) 0 (λ c. nothing_read) w spec.session_setups (no_history (suc spec.sessions)) (omega arith)
        (record { steady = a.alone.steady; idle = a.alone.idle; count = a.alone.count }) (forgot-first (suc spec.sessions) spec.sessions w a)
    at (SetupFailed n) a = tt
    at (SessionSetupFailed n) a = tt
    at (SessionSetupWaits n) a = tt

pub spec-shown : (spec : Spec) (w : World) (ks : List ℕ) → length spec.session_setups ≤ spec.sessions → start spec ≡ Started w
    → ((k : ℕ) → (get_or spec.steps k no_step).session < length w.sessions)
    → Shown (after_setups spec) (send_all spec.steps w ks) (send_all_told spec.steps w ks (start_told spec))
spec-shown spec w ks le e fit =
    let x : Forgot (after_setups spec) w (start_told spec) =
    subst (λ s. OnStarted s (λ v. Forgot (after_setups spec) v (start_told spec))) e (start-forgot spec le) in
    line-shown (after_setups spec) spec.steps w ks (start_told spec) (start-sound spec w le e) fit (shown-forgot (after_setups spec) w (start_told spec) x)

-- the serial order and what the transcripts show, of a spec that is bound
pub bound-heir : (spec : Spec) (w : World) (ks : List ℕ) → IsBound spec → start spec ≡ Started w
    → Told (first_rows spec) (send_all spec.steps w ks) (locked_part (send_all_told spec.steps w ks (start_told spec)))
bound-heir spec w ks bound e =
    heir-told (first_rows spec) (send_all spec.steps w ks) (send_all_told spec.steps w ks (start_told spec))
    (spec-serial spec w ks bound.session_setups e (bound-fits spec w bound e))

-- where no select asked for no lock nothing is left out
pub bound-whole : (spec : Spec) (w : World) (ks : List ℕ) → IsBound spec → start spec ≡ Started w → IsWhole (send_all_told spec.steps w ks (start_told spec))
    → Told (first_rows spec) (send_all spec.steps w ks) (send_all_told spec.steps w ks (start_told spec))
bound-whole spec w ks bound e whole =
    whole-told (first_rows spec) (send_all spec.steps w ks) (send_all_told spec.steps w ks (start_told spec)) whole
    (spec-serial spec w ks bound.session_setups e (bound-fits spec w bound e))

pub bound-shown : (spec : Spec) (w : World) (ks : List ℕ) → IsBound spec → start spec ≡ Started w
    → Shown (after_setups spec) (send_all spec.steps w ks) (send_all_told spec.steps w ks (start_told spec))
bound-shown spec w ks bound e = spec-shown spec w ks bound.session_setups e (bound-fits spec w bound e)
