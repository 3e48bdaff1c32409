-- The sequential machine: a step is sent, and then the waits that are ripe are granted.
use Rattle.std.specs.Prelude.{ℕ, zero, suc, ◌+◌, true, false, List, [], ◌∷◌, ◌++◌, length, map, take, set, get_or, Some, None}
use Rattle.finite_maps.specs.Map.{get, empty}
use Rattle.lock_queues.specs.declared.wait.Wait.{Wait}
use Rattle.lock_queues.specs.Locks.{Spot, Look, next_grant, waits_now}
use Rattle.lock_modes.specs.Rows.{Rows'}
use Rattle.events.specs.declared.event.Event.{Event}
use Rattle.events.specs.declared.event.Event.TheVariants.{Sent, Resumed, NotSent}
use Rattle.machine_model.specs.declared.status.Status.TheVariants.{Outside}
use Rattle.machine_model.specs.Go.{Run, Scene, go, taking}
use Rattle.machine_model.specs.Session.{Session, Task, note, tasks_of}
use Rattle.bound_specs.specs.Spec.{Step, no_step}

pub record World : Type 0 where
  pub rows : Rows'
  pub sessions : List Session
  pub waits : List Wait

abbrev pub fresh : Session
fresh = record { overlay = empty; held = empty; status = Outside; rest = []; transcript = [] }

abbrev pub session_at : World → ℕ → Session
session_at w i = get_or w.sessions i fresh

abbrev pub look_of : World → Look
look_of w = λ c r. get (session_at w c).held r

abbrev pub scene_of : World → Scene
scene_of w = record { count = length w.sessions; look = look_of w; waits = w.waits }

abbrev pub placed_back : World → ℕ → Run → World
placed_back w i r = record { rows = r.rows; sessions = set w.sessions i r.session; waits = r.waits }

-- the session, as given, goes with these tasks
abbrev pub goes : World → ℕ → Session → List Task → World
goes w i s ts = placed_back w i (go (scene_of w) i s w.rows ts)

-- the wait is granted, and its session goes on
abbrev pub granted : World → Spot → World
granted w spot =
    let i = spot.wait.session in
    let s = session_at w i in
    goes (record w { waits = spot.before ++ spot.after }) i (note (record (taking s spot.wait.resource spot.wait.mode) { rest = [] }) Resumed) s.rest

abbrev pub settle_for : ℕ → World → World
settle_for zero w = w
settle_for (suc n) w = elim (next_grant (length w.sessions) (look_of w) w.waits) [ None ↦ w | Some spot ↦ settle_for n (granted w spot) ]

-- how much the sessions that wait have left to do
abbrev pub left_of : List Session → List Wait → ℕ
left_of sessions [] = 0
left_of sessions (v ∷ vs) = suc (length (get_or sessions v.session fresh).rest) + left_of sessions vs

abbrev pub left_to_do : World → ℕ
left_to_do w = left_of w.sessions w.waits

-- while a wait is ripe, the first one is granted
abbrev pub settle : World → World
settle w = settle_for (left_to_do w) w

abbrev pub noted : World → ℕ → Event → World
noted w i e = record w { sessions = set w.sessions i (note (session_at w i) e) }

-- the step numbered k is sent, at the level where its session stands
abbrev pub send : List Step → World → ℕ → World
send steps w k =
    let st = get_or steps k no_step in
    elim (waits_now w.waits st.session) [
      | true ↦ noted w st.session (NotSent k)
      | false ↦ settle (goes w st.session (note (session_at w st.session) (Sent k)) (tasks_of (session_at w st.session).status st.statements))
    ]

abbrev pub send_all : List Step → World → List ℕ → World
send_all steps w [] = w
send_all steps w (k ∷ ks) = send_all steps (send steps w k) ks

-- the transcript of each session
abbrev pub outcome_of : ℕ → World → List (List Event)
outcome_of n w = map (λ (s : Session). s.transcript) (take n w.sessions)

abbrev pub blank : World
blank = record { rows = empty; sessions = []; waits = [] }
