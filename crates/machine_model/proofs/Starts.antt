-- A spec that starts, starts in a sound world.
use Rattle.std.proofs.Common.{◌≡◌, ◌≢◌, refl, sym, ap, ◌∙◌, subst, ℕ, zero, suc, ◌+◌, ◌<◌, ◌≤◌, Bool, true, false, not, ◌||◌, ◌==◌, List, [], ◌∷◌, ◌++◌, length}
use Rattle.std.proofs.Common.{get_or, replicate, None, ◌⊎◌, inl, inr, ⊎_elim, arith, length-set, get_or-set_other, eq-eqb}
use Rattle.finite_maps.specs.Map.{get, empty, get-empty}
use Rattle.lock_modes.specs.Resource.{resource_order}
use Rattle.lock_queues.specs.declared.wait.Wait.{Wait}
use Rattle.lock_queues.specs.Locks.{Look, fits_with, nobody_waits, waits_now, next_grant}
use Rattle.machine_model.specs.Session.{Task, Ask, Do, Session, tasks_of}
use Rattle.machine_model.specs.Go.{Scene, Run, solo, stopped, go}
use Rattle.machine_model.specs.World.{World, fresh, session_at, look_of, scene_of}
use Rattle.bound_specs.specs.Spec.{Spec}
use Rattle.machine_model.specs.Start.{Start, Started, SetupFailed, SessionSetupFailed, SessionSetupWaits, start, started_then, main_setups, session_setups}
use Rattle.machine_model.specs.Start.{after_setup, forgotten, has_failed, is_outside, IsAlone, IsIdle}
use Rattle.machine_model.specs.Sound.{Way, one, more, Steady, Sound, UnderLocks}
use Rattle.lock_modes.specs.declared.mode.Mode.{Mode}
use Rattle.lock_modes.specs.declared.resource.Resource.{Resource}
use Rattle.bound_statements.specs.declared.statement.Bound.{Bound}
use Rattle.machine_model.proofs.Basics.{not_both, or_true_left, or_true_right, cases-eq}
use Rattle.machine_model.specs.Footprint.{EachAsk, IsFree}
use Rattle.machine_model.proofs.Solo.{go-solo, all_below-true}
use Rattle.machine_model.proofs.Fitting.{together-fits}
use Rattle.machine_model.proofs.Kept.{under-empty, Pending}
use Rattle.machine_model.proofs.Settles.{Entering, entering, run, goes-steady, goes-count, session-other, touched-steady, sound-from}

pub get_or-replicate : {A : Type 0} (n c : ℕ) (x : A) → get_or (replicate n x) c x ≡ x
get_or-replicate zero c x = refl
get_or-replicate (suc n) zero x = refl
get_or-replicate (suc n) (suc c) x = get_or-replicate n c x

pub length_replicate : {A : Type 0} (n : ℕ) (x : A) → length (replicate n x) ≡ n
length_replicate zero x = refl
length_replicate (suc n) x = ap suc (length_replicate n x)

abbrev pub first_world : ℕ → World
first_world n = record { rows = empty; sessions = replicate (suc n) fresh; waits = [] }

no_lock : (n c : ℕ) (r : Resource) → look_of (first_world n) c r ≡ None
no_lock n c r = ap (λ (s : Session). get s.held r) (get_or-replicate (suc n) c fresh) ∙ get-empty resource_order Mode r

no_way : (look : Look) (a b : ℕ) → Way (Rattle.lock_queues.specs.Locks.waits_for look []) a b → ⊥
no_way look a b (one e) = cc
no_way look a b (more e v) = cc

pub first-steady : (n : ℕ) → Steady (first_world n)
first-steady n =
    record {
      together = λ c d r m k ne a b. absurd (let e = sym (no_lock n c r) ∙ a in cc);
      under = λ c. subst (λ (s : Session). UnderLocks s.overlay s.held) (sym (get_or-replicate (suc n) c fresh)) (under-empty empty);
      ready = tt;
      distinct = tt;
      no_ring = λ c v. no_way (look_of (first_world n)) c c v;
    }

-- ---- main setups: the control session goes while no other holds a lock

pub all-free : (e : Scene) (i : ℕ) → ((c : ℕ) (r : Resource) → c ≢ i → e.look c r ≡ None) → e.waits ≡ [] → (ts : List Task) → EachAsk (IsFree e i) ts
all-free e i none idle [] = tt
all-free e i none idle (Ask n r m ∷ ts) = (
  (
    all_below-true e.count _ (λ c. ⊎_elim (λ k. or_true_left (c == i) _ (eq-eqb c i k)) (λ k. or_true_right (c == i) _ (ap (fits_with m) (none c r k)))
        (cases-eq c i)),
    ap (λ ws. nobody_waits ws r) idle,
  ),
  all-free e i none idle ts,
)
all-free e i none idle (Do st ∷ ts) = all-free e i none idle ts

pub idle-now : (w : World) (i : ℕ) → w.waits ≡ [] → waits_now w.waits i ≡ false
idle-now w i e = ap (λ ws. waits_now ws i) e

pub alone-goes : (control n : ℕ) (w : World) (block : List Bound) → control < n → IsAlone control n w → IsAlone control n (after_setup w control block)
alone-goes control n w block lt a =
    let s = session_at w control in
    let en : Entering w control s (tasks_of s.status block) = entering w control s s.status block a.steady (subst (λ k. control < k) (sym a.count) lt) (idle-now w control a.idle)
    refl refl in
    let free = all-free (scene_of w) control (λ c r ne. ap (λ (x : Session). get x.held r) (a.others c ne)
    ∙ get-empty resource_order Mode r) a.idle (tasks_of s.status block) in
    let gone : go (scene_of w) control s w.rows (tasks_of s.status block) ≡ stopped (scene_of w) (solo s w.rows (tasks_of s.status block)) =
    go-solo (scene_of w) control s w.rows (tasks_of s.status block) free (together-fits w a.steady.together control) in
    record {
      steady = goes-steady w control s (tasks_of s.status block) en;
      idle = ap (λ (r : Run). r.waits) gone ∙ a.idle;
      others = λ c ne. session-other w control c (go (scene_of w) control s w.rows (tasks_of s.status block)) ne ∙ a.others c ne;
      count = goes-count w control s (tasks_of s.status block) en ∙ a.count;
    }

pub alone-forgets : (control n : ℕ) (w : World) → IsAlone control n w → IsAlone control n (forgotten w control)
alone-forgets control n w a =
    let s : Session = record (session_at w control) { transcript = [] } in
    record {
      steady = touched-steady w control s (record { overlay = refl; held = refl; rest = refl }) a.steady;
      idle = a.idle;
      others = λ c ne. get_or-set_other w.sessions control c s fresh ne ∙ a.others c ne;
      count = length-set w.sessions control s ∙ a.count;
    }

-- what comes of the main setups
abbrev pub OnStarted : Start → (World → Type 0) → Type 0
OnStarted (Started w) P = P w
OnStarted (SetupFailed n) P = Unit {0}
OnStarted (SessionSetupFailed n) P = Unit {0}
OnStarted (SessionSetupWaits n) P = Unit {0}

main-alone : (control n k : ℕ) (w : World) (blocks : List (List Bound)) → control < n → IsAlone control n w
    → OnStarted (main_setups control k w blocks) (IsAlone control n)
main-alone control n k w [] lt a = a
main-alone control n k w (block ∷ blocks) lt a =
    at (has_failed (session_at (after_setup w control block) control) || not (is_outside (session_at (after_setup w control block) control).status))
    (main-alone control n (suc k) (forgotten (after_setup w control block) control) blocks lt
    (alone-forgets control n (after_setup w control block) (alone-goes control n w block lt a)))
  where
    at : (b : Bool) → OnStarted (main_setups control (suc k) (forgotten (after_setup w control block) control) blocks) (IsAlone control n)
        → OnStarted (elim b [ true ↦ SetupFailed k | false ↦ main_setups control (suc k) (forgotten (after_setup w control block) control) blocks ])
        (IsAlone control n)
    at true rec = tt
    at false rec = rec

-- ---- session setups: none waits

pub idle-goes : (n i : ℕ) (w : World) (block : List Bound) → i < n → IsIdle n w → waits_now (after_setup w i block).waits i ≡ false
    → IsIdle n (forgotten (after_setup w i block) i)
idle-goes n i w block lt a still =
    let s = session_at w i in
    let en : Entering w i s (tasks_of s.status block) = entering w i s s.status block a.steady (subst (λ k. i < k) (sym a.count) lt) (idle-now w i a.idle) refl refl in
    let w2 : World = after_setup w i block in
    let s2 : Session = record (session_at w2 i) { transcript = [] } in
    record {
      steady = touched-steady w2 i s2 (record { overlay = refl; held = refl; rest = refl }) (goes-steady w i s (tasks_of s.status block) en);
      idle = none (run w i s (tasks_of s.status block) en).ends;
      count = length-set w2.sessions i s2 ∙ goes-count w i s (tasks_of s.status block) en ∙ a.count;
    }
  where
    none : ((go (scene_of w) i (session_at w i) w.rows (tasks_of (session_at w i).status block)).waits ≡ w.waits)
        ⊎ Pending (scene_of w) i (length (tasks_of (session_at w i).status block)) (go (scene_of w) i (session_at w i) w.rows (tasks_of (session_at w i).status block))
        → (go (scene_of w) i (session_at w i) w.rows (tasks_of (session_at w i).status block)).waits ≡ []
    none (inl e) = e ∙ a.idle
    none (inr p) =
        let v : Wait = record { session = i; resource = p.resource; mode = p.mode } in
        let e : (go (scene_of w) i (session_at w i) w.rows (tasks_of (session_at w i).status block)).waits ≡ v ∷ [] = p.waits ∙ ap (λ ws. ws ++ v ∷ []) a.idle in
        let b : ((i == i) || false) ≡ false = sym (ap (λ ws. waits_now ws i) e) ∙ still in
        absurd (not_both _ (or_true_left (i == i) false (eq-eqb i i refl)) b)

sessions-idle : (n i : ℕ) (w : World) (blocks : List (List Bound)) → i + length blocks ≤ n → IsIdle n w → OnStarted (session_setups i w blocks) (IsIdle n)
sessions-idle n i w [] le a = a
sessions-idle n i w (block ∷ blocks) le a =
    at (has_failed (session_at (after_setup w i block) i)) (waits_now (after_setup w i block).waits i) refl
    (λ still. sessions-idle n (suc i) (forgotten (after_setup w i block) i) blocks (omega arith) (idle-goes n i w block (omega arith) a still))
  where
    at : (b c : Bool) → waits_now (after_setup w i block).waits i ≡ c
        → (waits_now (after_setup w i block).waits i ≡ false → OnStarted (session_setups (suc i) (forgotten (after_setup w i block) i) blocks) (IsIdle n))
        → OnStarted (elim b [
          | true ↦ SessionSetupFailed i
          | false ↦ elim c
              [ true ↦ SessionSetupWaits i | false ↦ session_setups (suc i) (forgotten (after_setup w i block) i) blocks ]
        ]) (IsIdle n)
    at true c is rec = tt
    at false true is rec = tt
    at false false is rec = rec is

-- nobody waits where a spec starts
pub start-idle : (spec : Spec) → length spec.session_setups ≤ spec.sessions → OnStarted (start spec) (IsIdle (suc spec.sessions))
start-idle spec le = then' (main_setups spec.sessions 0 (first_world spec.sessions) spec.setups)
    (main-alone spec.sessions (suc spec.sessions) 0 (first_world spec.sessions) spec.setups (omega arith) first)
  where
    first : IsAlone spec.sessions (suc spec.sessions) (first_world spec.sessions)
    first = record {
      steady = first-steady spec.sessions;
      idle = refl;
      others = λ c ne. get_or-replicate (suc spec.sessions) c fresh;
      count = length_replicate (suc spec.sessions) fresh;
    }

    then' : (s : Start) → OnStarted s (IsAlone spec.sessions (suc spec.sessions))
        → OnStarted (started_then s (λ w. session_setups 0 w spec.session_setups)) (IsIdle (suc spec.sessions))
    then' (Started w) a = sessions-idle (suc spec.sessions) 0 w spec.session_setups (omega arith) (record { steady = a.steady; idle = a.idle; count = a.count })
    then' (SetupFailed n) a = tt
    then' (SessionSetupFailed n) a = tt
    then' (SessionSetupWaits n) a = tt

pub start-sound : (spec : Spec) (w : World) → length spec.session_setups ≤ spec.sessions → start spec ≡ Started w → Sound w
start-sound spec w le e =
    let a : IsIdle (suc spec.sessions) w = subst (λ s. OnStarted s (IsIdle (suc spec.sessions))) e (start-idle spec le) in
    sound-from w a.steady (ap (next_grant (length w.sessions) (look_of w)) a.idle)

pub start-count : (spec : Spec) (w : World) → length spec.session_setups ≤ spec.sessions → start spec ≡ Started w → length w.sessions ≡ suc spec.sessions
start-count spec w le e =
    let a : IsIdle (suc spec.sessions) w = subst (λ s. OnStarted s (IsIdle (suc spec.sessions))) e (start-idle spec le) in
    a.count
