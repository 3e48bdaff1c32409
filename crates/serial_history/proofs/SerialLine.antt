-- Every line is a serial run of its commits: the worlds.
use Rattle.std.proofs.Common.{◌≡◌, ◌≢◌, refl, sym, ◌∙◌, subst, ℕ, zero, suc, ◌<◌, Bool, true, false, List, [], ◌∷◌, ◌++◌, length, map, set, get_or, Option, Some}
use Rattle.std.proofs.Common.{None, ⊎_elim, length-set, get_or-set_same, get_or-set_other}
use Rattle.std.proofs.lemmas.List.{length-map}
use Rattle.finite_maps.specs.Map.{empty}
use Rattle.lock_queues.specs.declared.wait.Wait.{Wait}
use Rattle.lock_queues.specs.Locks.{Spot, next_grant, waits_now}
use Rattle.lock_modes.specs.Rows.{Rows'}
use Rattle.row_tables.specs.Overlay.{Overlay, lay}
use Rattle.machine_model.specs.Session.{Task, Session, Held, note, tasks_of}
use Rattle.machine_model.specs.Go.{Run, go, taking}
use Rattle.machine_model.specs.World.{World, session_at, look_of, scene_of, goes, granted, settle, settle_for, left_to_do, send, send_all, noted}
use Rattle.bound_specs.specs.Spec.{Step, no_step}
use Rattle.machine_model.specs.Sound.{Steady, Sound, UnderLocks}
use Rattle.serial_history.specs.Serial.{Tally, go_tally, History, tally_of, goes_told, granted_told, settle_told, send_told, send_all_told, Repeats, Told, Did, SerialRun, locked_work, locked_commit, locked_part}
use Rattle.serial_history.specs.Serial.{Replay, WorkHeld}
use Rattle.events.specs.declared.event.Event.TheVariants.{Sent, NotSent, Resumed}
use Rattle.bound_statements.specs.declared.statement.Bound.{Bound}
use Rattle.machine_model.proofs.Basics.{cases-eq}
use Rattle.machine_model.specs.Footprint.{HeldFits}
use Rattle.machine_model.proofs.Fitting.{fits-at}
use Rattle.machine_model.proofs.Settles.{Entering, Grant, next-grant, session-known, session-there, session-other, goes-steady, granted-steady}
use Rattle.machine_model.proofs.Settles.{entering-granted, entering, steady-of, send-sound, touched, touched-same}
use Rattle.machine_model.proofs.Counts.{send-fitting}
use Rattle.serial_history.proofs.Replays.{repeats-other, Telling, go-tells, work-taking}
use Rattle.lock_modes.proofs.ModeLaws.{compatible-comm}

-- the history tells the world, without the selects that asked for no lock
pub record Heir (start : Rows') (w : World) (h : History) : Type 0 where
  pub serial : SerialRun start (map locked_commit h.commits) w.rows
  pub each : (c : ℕ) → Repeats w.rows (session_at w c) (locked_work (get_or h.works c []))
  pub count : length h.works ≡ length w.sessions

work-at : (works : List (List Did)) (c : ℕ) → get_or (map locked_work works) c [] ≡ locked_work (get_or works c [])
work-at [] c = refl
work-at (ds ∷ works) zero = refl
work-at (ds ∷ works) (suc c) = work-at works c

pub heir-told : (start : Rows') (w : World) (h : History) → Heir start w h → Told start w (locked_part h)
heir-told start w h x = record {
  serial = x.serial;
  each = λ c. subst (Repeats w.rows (session_at w c)) (sym (work-at h.works c)) (x.each c);
  count = length-map h.works locked_work ∙ x.count;
}

pub told-heir : (start : Rows') (w : World) (h : History) → Told start w (locked_part h) → Heir start w h
told-heir start w h x = record {
  serial = x.serial;
  each = λ c. subst (Repeats w.rows (session_at w c)) (work-at h.works c) (x.each c);
  count = sym (length-map h.works locked_work) ∙ x.count;
}

module _ (start : Rows') (w : World) (h : History) (i : ℕ) (s : Session) (ts : List Task) (en : Entering w i s ts) (told : Heir start w h)
    (own : Repeats w.rows s (locked_work (get_or h.works i []))) where
  abbrev Others : Rows' → Type 0
  Others rows = (c : ℕ) → c ≢ i → Repeats rows (session_at w c) (locked_work (get_or h.works c []))

  keeps : (k : Held) (o : Overlay) (rows : Rows') → HeldFits (scene_of w) i k → UnderLocks o k → Others rows → Others (lay o rows)
  keeps k o rows fits under others c ne =
      repeats-other rows (session_at w c) (locked_work (get_or h.works c [])) o k
      (λ r m n a b. compatible-comm m n ∙ fits-at (length w.sessions) (look_of w) i c r n m (session-known w c r m a) (λ e. ne (sym e)) a
      (fits.each r n b)) under (others c ne)

  abbrev its : Run
  its = go (scene_of w) i s w.rows ts

  abbrev its_tally : Tally
  its_tally = go_tally (scene_of w) i s w.rows ts (tally_of h i)

  telling : Telling start Others (scene_of w) i keeps its.session its.rows its_tally
  telling = go-tells start Others (scene_of w) i keeps s w.rows ts (tally_of h i) en.have en.fits en.under en.holds en.backed
      (record { serial = told.serial; own = own; others = λ c ne. told.each c })

  pub goes-tells : Heir start (goes w i s ts) (goes_told w i s ts h)
  goes-tells =
      record {
        serial = telling.serial;
        each = λ c. ⊎_elim (λ k. subst (λ d. Repeats its.rows (session_at (goes w i s ts) d) (locked_work (get_or (set h.works i its_tally.work) d []))) (sym k)
            (subst (λ x. Repeats its.rows x (locked_work (get_or (set h.works i its_tally.work) i []))) (sym (session-there w i its en.known))
            (subst (λ x. Repeats its.rows its.session (locked_work x)) (sym
            (get_or-set_same h.works i its_tally.work [] (subst (λ n. i < n) (sym told.count) en.known))) telling.own)))
            (λ ne. subst (λ x. Repeats its.rows x (locked_work (get_or (set h.works i its_tally.work) c []))) (sym (session-other w i c its ne))
            (subst (λ x. Repeats its.rows (session_at w c) (locked_work x)) (sym (get_or-set_other h.works i c its_tally.work [] ne)) (telling.others c ne))) (cases-eq c i);
        count = length-set h.works i its_tally.work ∙ told.count ∙ sym (length-set w.sessions i its.session);
      }

told-waits : (start : Rows') (w : World) (h : History) (vs : List Wait) → Heir start w h → Heir start (record w { waits = vs }) h
told-waits start w h vs t = record { serial = t.serial; each = t.each; count = t.count }

pub granted-tells : (start : Rows') (w : World) (h : History) (spot : Spot) (st : Steady w) (g : Grant (length w.sessions) (look_of w) w.waits spot)
    → Heir start w h → Heir start (granted w spot) (granted_told w spot h)
granted-tells start w h spot st g told =
    let i = spot.wait.session in
    let s = session_at w i in
    let x = told.each i in
    goes-tells start (record w { waits = spot.before ++ spot.after }) h i
    (note (record (taking s spot.wait.resource spot.wait.mode) { rest = [] }) Resumed) s.rest (entering-granted w spot st g)
    (told-waits start w h (spot.before ++ spot.after) told)
    (record { replay = x.replay; held = work-taking s.held spot.wait.resource spot.wait.mode s refl (locked_work (get_or h.works i [])) x.held })

pub settle-tells : (n : ℕ) (start : Rows') (w : World) (h : History) → Steady w → Heir start w h → Heir start (settle_for n w) (settle_told n w h)
settle-tells zero start w h st told = told
settle-tells (suc n) start w h st told = at (next_grant (length w.sessions) (look_of w) w.waits) refl
    (λ spot g. settle-tells n start (granted w spot) (granted_told w spot h) (granted-steady w spot st g) (granted-tells start w h spot st g told))
  where
    at : (o : Option Spot) → next_grant (length w.sessions) (look_of w) w.waits ≡ o
        → ((spot : Spot) → Grant (length w.sessions) (look_of w) w.waits spot
        → Heir start (settle_for n (granted w spot)) (settle_told n (granted w spot) (granted_told w spot h)))
        → Heir start (elim o [ None ↦ w | Some spot ↦ settle_for n (granted w spot) ])
        (elim o [ None ↦ h | Some spot ↦ settle_told n (granted w spot) (granted_told w spot h) ])
    at None is rec = told
    at (Some spot) is rec = rec spot (next-grant (length w.sessions) (look_of w) w.waits spot is)

-- a step sent goes on telling the world
pub send-tells : (start : Rows') (steps : List Step) (w : World) (k : ℕ) (h : History) → Sound w → (get_or steps k no_step).session < length w.sessions
    → Heir start w h → Heir start (send steps w k) (send_told steps w k h)
send-tells start steps w k h sound lt told = at (waits_now w.waits i) refl
  where
    i : ℕ
    i = (get_or steps k no_step).session

    ss : List Bound
    ss = (get_or steps k no_step).statements

    s : Session
    s = note (session_at w i) (Sent k)

    at : (b : Bool) → waits_now w.waits i ≡ b
        → Heir start (elim b [ true ↦ noted w i (NotSent k) | false ↦ settle (goes w i s (tasks_of s.status ss)) ])
        (elim b [ true ↦ h | false ↦ settle_told (left_to_do (goes w i s (tasks_of s.status ss))) (goes w i s (tasks_of s.status ss)) (goes_told w i s (tasks_of s.status ss) h) ])
    at true is = record {
      serial = told.serial;
      each = λ c. touched-same w i c (note (session_at w i) (NotSent k))
          (λ x. Repeats w.rows x (locked_work (get_or h.works c []))) (λ p. record { replay = p.replay; held = p.held }) (told.each c);
      count = told.count ∙ sym (length-set w.sessions i (note (session_at w i) (NotSent k)));
    }
    at false is =
        let en = entering w i s s.status ss (steady-of w sound) lt is refl refl in
        let x = told.each i in
        settle-tells (left_to_do (goes w i s (tasks_of s.status ss))) start (goes w i s (tasks_of s.status ss)) (goes_told w i s (tasks_of s.status ss) h)
        (goes-steady w i s (tasks_of s.status ss) en) (goes-tells start w h i s (tasks_of s.status ss) en told (record { replay = x.replay; held = x.held }))

-- so does a whole line
pub line-tells : (start : Rows') (steps : List Step) (w : World) (ks : List ℕ) (h : History) → Sound w
    → ((k : ℕ) → (get_or steps k no_step).session < length w.sessions) → Heir start w h → Heir start (send_all steps w ks) (send_all_told steps w ks h)
line-tells start steps w [] h sound fit told = told
line-tells start steps w (k ∷ ks) h sound fit told = line-tells start steps (send steps w k) ks (send_told steps w k h) (send-sound steps w k sound (fit k))
    (send-fitting steps w k fit) (send-tells start steps w k h sound (fit k) told)

-- a session's transcript is forgotten
pub told-touched : (start : Rows') (w : World) (h : History) (i : ℕ) (s : Session) → s.overlay ≡ (session_at w i).overlay → s.held ≡ (session_at w i).held
    → Heir start w h → Heir start (touched w i s) h
told-touched start w h i s o k told =
    record {
      serial = told.serial;
      each = λ c. touched-same w i c s (λ x. Repeats w.rows x (locked_work (get_or h.works c []))) (λ p. record {
        replay = subst (λ y. Replay w.rows empty (locked_work (get_or h.works c [])) y) (sym o) p.replay;
        held = subst (λ y. WorkHeld y (locked_work (get_or h.works c []))) (sym k) p.held;
      }) (told.each c);
      count = told.count ∙ sym (length-set w.sessions i s);
    }
