-- A session of a world goes: the world afterwards, from the store, the lock table and what is kept of each session.
use Rattle.events.specs.declared.event.Event.{Event}
use Rattle.std.proofs.Common.{◌≡◌, ◌≢◌, refl, sym, ap, ◌∙◌, subst, ℕ, ◌<◌, ◌≤◌, false, List, [], ◌∷◌, ◌++◌, length, drop, set, get_or, ◌==◌, eqb-true, ◌⊎◌}
use Rattle.std.proofs.Common.{⊎_elim, arith, true, Some}
use Rattle.finite_maps.specs.Map.{get}
use Rattle.lock_modes.specs.declared.resource.Resource.{Resource}
use Rattle.lock_queues.specs.declared.wait.Wait.{Wait}
use Rattle.lock_queues.specs.Locks.{Spot, waits_now}
use Rattle.lock_queues.specs.LockTable.{Locks, look_in, grant, slice}
use Rattle.lock_queues.specs.Rules.{IsNext, NothingRipe}
use Rattle.lock_queues.specs.Laws.{IsBelow}
use Rattle.lock_queues.specs.Sound.{EachWait}
use Rattle.lock_queues.proofs.Slices.{get-slice}
use Rattle.lock_queues.proofs.Bounded.{tests-decide}
use Rattle.row_tables.specs.Layers.{Layers, overlay_of}
use Rattle.bound_statements.specs.declared.statement.Bound.{Bound}
use Rattle.events.specs.declared.event.Event.TheVariants.{Sent, Resumed, NotSent}
use Rattle.machine_model.specs.Session.{Task, Session, note, tasks_of}
use Rattle.machine_model.specs.Go.{Run, taking}
use Rattle.machine_model.specs.World.{scene_of, placed_back, goes, granted, settle, noted, send, look_of, session_at, World}
use Rattle.bound_specs.specs.Spec.{Step, no_step}
use Rattle.machine_model.specs.Sound.{Steady, UnderLocks}
use Rattle.session_steps.specs.Stage.{IsWithin}
use Rattle.session_steps.specs.State.{Own, no_own, session_of, sessions_from, world_of, SameOthers}
use Rattle.session_steps.specs.Going.{Standing, tasks_from, IsScene, IsToGo, StopsIn}
use Rattle.machine_model.proofs.Basics.{either_true, not_both}
use Rattle.session_steps.proofs.Steps.{tasks_from-start, still-under}
use Rattle.machine_model.proofs.Kept.{under-empty}
use Rattle.session_steps.proofs.States.{length-sessions_from, session_at-is, sessions-set, look-is, next-is, session-taken, same-taken, same-refl}
use Rattle.machine_model.proofs.Settles.{Entering, entering, entering-granted, next-grant}
use Rattle.machine_model.proofs.SettleSteps.{settle-none, next_in}

look-same : (i : ℕ) (l m : Layers) (t u : Locks) → SameOthers i l m t u → (c : ℕ) (r : Resource) → c ≢ i → look_in u c r ≡ look_in t c r
look-same i l m t u same c r ne = sym (get-slice c u.held r) ∙ ap (λ h. get h r) (same.held c ne) ∙ get-slice c t.held r

-- what one session does leaves the others past these as they were
pub within-still : (n i : ℕ) (l m : Layers) (t u : Locks) → i < n → SameOthers i l m t u → EachWait (λ w. w.session < n) u.waits → IsWithin n l t
    → IsWithin n m u
within-still n i l m t u lt same waiters within = record {
  overlays = λ c le. same.overlays c (λ e. absurd (omega arith)) ∙ within.overlays c le;
  below = record { holders = λ c r le. look-same i l m t u same c r (λ e. absurd (omega arith)) ∙ within.below.holders c r le; waiters = waiters };
}

-- the scene of a world, when one session has begun to change what it holds
pub scene-is : (l : Layers) (t u : Locks) (owns : List Own) (i : ℕ) → IsBelow (length owns) t → i < length owns → SameOthers i l l t u → u.waits ≡ t.waits
    → IsScene (scene_of (world_of l t owns)) i u
scene-is l t u owns i below lt same waits = record {
  others = λ c r ne. look-same i l l t u same c r ne ∙ sym (ap (λ look. look c r) (look-is l t owns below));
  waits = waits;
  below = subst (λ n. IsBelow n u) (sym (length-sessions_from l t 0 owns))
      (record {
        holders = λ c r le. look-same i l l t u same c r (λ e. absurd (omega arith)) ∙ below.holders c r le;
        waiters = subst (EachWait (λ w. w.session < length owns)) (sym waits) below.waiters;
      });
  known = subst (λ n. i < n) (sym (length-sessions_from l t 0 owns)) lt;
}

-- a session goes from there to here: the world has its part changed
pub goes-is : (l : Layers) (t : Locks) (owns : List Own) (i : ℕ) (u : Locks) (own : Own) (ts : List Task) (y : Standing) → IsBelow (length owns) t
    → i < length owns → SameOthers i l l t u → u.waits ≡ t.waits
    → StopsIn i (record { layers = l; locks = u; own = own }) ts y → goes (world_of l t owns) i (session_of l u i own) ts
    ≡ world_of y.layers y.locks (set owns i y.own)
goes-is l t owns i u own ts y below lt same waits stops =
    let w = world_of l t owns in
    let others = Rattle.session_steps.proofs.States.same-trans i l l y.layers t u y.locks same stops.others in
    ap (λ (r : Run). placed_back w i r) (stops.goes (scene_of w) (scene-is l t u owns i below lt same waits))
    ∙ (λ k. record { rows = y.layers.committed; sessions = sym (sessions-set l y.layers t y.locks i y.own owns others) k; waits = y.locks.waits })

-- ---- settling

-- nothing is ripe in the table: the world is settled
pub settled-is : (l : Layers) (t : Locks) (owns : List Own) → IsBelow (length owns) t → NothingRipe t → settle (world_of l t owns) ≡ world_of l t owns
settled-is l t owns below never = settle-none (world_of l t owns) (next-is l t owns below ∙ (tests-decide (length owns) t below).none never)

-- the table with a wait taken out
abbrev pub without_wait : Locks → Spot → Locks
without_wait t s = record { held = t.held; waits = s.before ++ s.after }

-- what is kept of a session that goes on
abbrev pub resumed_own : Own → Own
resumed_own own = record { status = own.status; rest = []; transcript = own.transcript ++ Resumed ∷ [] }

pub granted-is : (l : Layers) (t : Locks) (owns : List Own) (s : Spot) (y : Standing) → IsBelow (length owns) t → s.wait.session < length owns
    → EachWait (λ w. w.session < length owns) (s.before ++ s.after)
    → StopsIn s.wait.session (record { layers = l; locks = grant t s; own = resumed_own (get_or owns s.wait.session no_own) })
    (get_or owns s.wait.session no_own).rest y
    → granted (world_of l t owns) s ≡ world_of y.layers y.locks (set owns s.wait.session y.own)
granted-is l t owns s y below lt waiters stops =
    let i = s.wait.session in
    let r = s.wait.resource in
    let m = s.wait.mode in
    let own = get_or owns i no_own in
    let t1 = without_wait t s in
    let session : note (record (taking (session_of l t i own) r m) { rest = [] }) Resumed
    ≡ session_of l (grant t s) i (resumed_own own) = sym (ap (λ (x : Session). note (record x { rest = [] }) Resumed) (session-taken l t1 i r m own)) in
    ap (λ (x : Session). goes (world_of l t1 owns) i (note (record (taking x r m) { rest = [] }) Resumed) x.rest) (session_at-is l t owns i lt)
    ∙ ap (λ x. goes (world_of l t1 owns) i x own.rest) session
    ∙ goes-is l t1 owns i (grant t s) (resumed_own own) own.rest y (record { holders = below.holders; waiters = waiters }) lt (same-taken l t1 i r m) refl stops

-- ---- what lets a session go on

-- every other session writes under its locks
others-under : (l : Layers) (t : Locks) (owns : List Own) → IsWithin (length owns) l t → Steady (world_of l t owns) → (c : ℕ)
    → UnderLocks (overlay_of c l) (slice c t.held)
others-under l t owns within steady c =
    let cases : (c < length owns) ⊎ (length owns ≤ c) = grind arith in
    ⊎_elim (λ lt. subst (λ (x : Session). UnderLocks x.overlay x.held) (session_at-is l t owns c lt) (steady.under c))
    (λ le. subst (λ o. UnderLocks o (slice c t.held)) (sym (within.overlays c le)) (under-empty (slice c t.held))) cases

idle-now : (i : ℕ) (ws : List Wait) → EachWait (λ w. w.session ≢ i) ws → waits_now ws i ≡ false
idle-now i [] each = refl
idle-now i (w ∷ ws) each = Rattle.std.proofs.lemmas.Bool.false_from_ne_true _ (λ e.
    ⊎_elim (λ h. each.0 (eqb-true w.session i h)) (λ h. not_both _ h (idle-now i ws each.1)) (either_true (w.session == i) _ e))

-- a session that enters a world with these tasks is to go on with the statements that they are of
pub to-go : (l : Layers) (t : Locks) (owns : List Own) (i : ℕ) (u : Locks) (own : Own) (sts : List Bound) (k n : ℕ) → IsWithin (length owns) l t
    → SameOthers i l l t u → u.waits ≡ t.waits
    → Entering (world_of l t owns) i (session_of l u i own) (tasks_from own.status (drop k sts) n) → IsToGo i l u own.status sts k n
to-go l t owns i u own sts k n within same waits en = record {
  idle = ap (λ ws. waits_now ws i) waits ∙ idle-now i t.waits en.idle;
  under = still-under i l l t u same (λ c ne. others-under l t owns within en.steady c);
  have = en.have;
  holds = en.holds;
  backed = en.backed;
}

-- ---- a step is sent

abbrev pub own_told : Own → Event → Own
own_told own e = record { status = own.status; rest = own.rest; transcript = own.transcript ++ e ∷ [] }

module _ (steps : List Step) (l : Layers) (t : Locks) (owns : List Own) (k : ℕ) where
  abbrev pub sender : ℕ
  sender = (get_or steps k no_step).session

  abbrev pub its_own : Own
  its_own = get_or owns sender no_own

  -- a session that waits is not sent the step
  pub not-sent : sender < length owns → waits_now t.waits sender ≡ true → send steps (world_of l t owns) k
      ≡ world_of l t (set owns sender (own_told its_own (NotSent k)))
  not-sent lt now =
      ap (λ b. let x : World = elim b [
        | true ↦ noted (world_of l t owns) sender (NotSent k)
        | false ↦ settle
            (goes (world_of l t owns) sender (note (session_at (world_of l t owns) sender) (Sent k))
            (tasks_of (session_at (world_of l t owns) sender).status (get_or steps k no_step).statements))
      ] in x) now
      ∙ ap (λ (s : Session). record { rows = l.committed; sessions = set (sessions_from l t 0 owns) sender (note s (NotSent k)); waits = t.waits })
      (session_at-is l t owns sender lt)
      ∙ (λ j. record {
        rows = l.committed;
        sessions = sym (sessions-set l l t t sender (own_told its_own (NotSent k)) owns (same-refl sender l t)) j;
        waits = t.waits;
      })

  -- it enters the world with the statements of the step
  pub sent-enters : Steady (world_of l t owns) → sender < length owns → waits_now t.waits sender ≡ false
      → Entering (world_of l t owns) sender (session_of l t sender (own_told its_own (Sent k))) (tasks_of its_own.status (get_or steps k no_step).statements)
  sent-enters steady lt idle =
      let own = own_told its_own (Sent k) in
      let w = world_of l t owns in
      let at : session_at w sender ≡ session_of l t sender its_own = session_at-is l t owns sender lt in
      let known' : sender < length w.sessions = subst (λ n. sender < n) (sym (length-sessions_from l t 0 owns)) lt in
      entering w sender (session_of l t sender own) its_own.status (get_or steps k no_step).statements steady known' idle (sym (ap (λ (s : Session). s.held) at))
      (sym (ap (λ (s : Session). s.overlay) at))

  -- it is to go on with the statements of the step
  pub sent-to-go : IsWithin (length owns) l t → Steady (world_of l t owns) → sender < length owns → waits_now t.waits sender ≡ false
      → IsToGo sender l t its_own.status (get_or steps k no_step).statements 0 0
  sent-to-go within steady lt idle =
      let sts = (get_or steps k no_step).statements in
      let own = own_told its_own (Sent k) in
      to-go l t owns sender t own sts 0 0 within (same-refl sender l t) refl
      (subst (Entering (world_of l t owns) sender (session_of l t sender own)) (sym (tasks_from-start its_own.status sts)) (sent-enters steady lt idle))

-- a session whose wait is granted is to go on with what is left of its step
pub granted-to-go : (l : Layers) (t : Locks) (owns : List Own) (s : Spot) (sts : List Bound) (k n : ℕ) → IsWithin (length owns) l t → Steady (world_of l t owns)
    → IsNext t s → s.wait.session < length owns
    → (get_or owns s.wait.session no_own).rest ≡ tasks_from (get_or owns s.wait.session no_own).status (drop k sts) n
    → IsToGo s.wait.session l (grant t s) (get_or owns s.wait.session no_own).status sts k n
granted-to-go l t owns s sts k n within steady next lt rest =
    let i = s.wait.session in
    let w = world_of l t owns in
    let own = get_or owns i no_own in
    let is : next_in w ≡ Some s = next-is l t owns within.below ∙ (tests-decide (length owns) t within.below).next s next in
    let g = next-grant (length w.sessions) (look_of w) w.waits s is in
    let en = entering-granted w s steady g in
    let t1 = without_wait t s in
    let there : session_at w i ≡ session_of l t i own = session_at-is l t owns i lt in
    let resumed' : note (record (taking (session_at w i) s.wait.resource s.wait.mode) { rest = [] }) Resumed ≡ session_of l (grant t s) i (resumed_own own) =
    ap (λ (x : Session). note (record (taking x s.wait.resource s.wait.mode) { rest = [] }) Resumed) there
    ∙ sym (ap (λ (x : Session). note (record x { rest = [] }) Resumed) (session-taken l t1 i s.wait.resource s.wait.mode own)) in
    let tasks : (session_at w i).rest ≡ tasks_from own.status (drop k sts) n = ap (λ (x : Session). x.rest) there ∙ rest in
    let waiters = subst (EachWait (λ v. v.session < length owns)) (sym next.there) within.below.waiters in
    to-go l t1 owns i (grant t s) (resumed_own own) sts k n (record {
      overlays = within.overlays;
      below = record { holders = within.below.holders; waiters = left-out s.before s.wait s.after waiters };
    }) (same-taken l t1 i s.wait.resource s.wait.mode)
    refl
    (subst (λ ts. Entering (world_of l t1 owns) i (session_of l (grant t s) i (resumed_own own)) ts) tasks
    (subst (λ x. Entering (world_of l t1 owns) i x (session_at w i).rest) resumed' en))
  where
    left-out : (us : List Wait) (v : Wait) (vs : List Wait) → EachWait (λ w. w.session < length owns) (us ++ v ∷ vs)
        → EachWait (λ w. w.session < length owns) (us ++ vs)
    left-out [] v vs p = p.1
    left-out (u ∷ us) v vs p = (p.0, left-out us v vs p.1)
