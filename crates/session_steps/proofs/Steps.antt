-- The statements of a step, one after another.
use Rattle.std.proofs.Common.{◌≡◌, ◌≢◌, refl, sym, ap, ◌∙◌, subst, ℕ, ◌+◌, Bool, true, false, List, [], ◌∷◌, drop}
use Rattle.lock_queues.specs.Locks.{waits_now}
use Rattle.lock_queues.specs.LockTable.{Locks, look_in, slice}
use Rattle.row_tables.specs.Overlay.{Overlay}
use Rattle.row_tables.specs.Layers.{Layers, overlay_of}
use Rattle.bound_statements.specs.Levels.{is_unlocked, asked}
use Rattle.bound_statements.specs.Plan.{Request, nowait}
use Rattle.bound_statements.specs.declared.statement.Bound.{Bound}
use Rattle.bound_statements.specs.declared.statement.Bound.TheVariants.{Select, Insert, Update, Delete, Begin, Commit, Rollback, Lock, SetVariable}
use Rattle.bound_statements.proofs.LevelLemmas.{asked-locked}
use Rattle.events.specs.declared.event.Fault.{Fault}
use Rattle.statement_execution.specs.Run.{MayLook}
use Rattle.statement_execution.proofs.AloneLemmas.{may-alone, may-unlocked}
use Rattle.machine_model.specs.Session.{Held, Task, Do, asks, behind, in_status, tasks_of}
use Rattle.machine_model.specs.Sound.{HeldTogether, UnderLocks, HoldsAll, Backed}
use Rattle.machine_model.specs.declared.status.Status.{Status}
use Rattle.machine_model.specs.declared.status.Status.TheVariants.{Outside, InBlock, Broken}
use Rattle.session_steps.specs.State.{SameOthers}
use Rattle.session_steps.specs.Going.{Standing, session_in, tasks_from, GoesOnTo, StopsIn, IsToAsk, IsToGo, DoesTo, FailsBy}
use Rattle.machine_model.proofs.Levels.{perform-in_status}
use Rattle.machine_model.proofs.Settles.{backed-tasks}
use Rattle.session_steps.proofs.Going.{sees-alone}
use Rattle.session_steps.proofs.Moves.{goes-on-on, goes-on-stops}

pub tasks_from-start : (x : Status) (sts : List Bound) → tasks_from x sts 0 ≡ tasks_of x sts
tasks_from-start x [] = refl
tasks_from-start x (st ∷ sts) = refl

-- what comes behind the statement does not matter to its requests
backed-front : (n : Bool) (have qs : List Request) (st : Bound) (ts : List Task) → Backed have (asks n qs (Do st ∷ ts)) → Backed have (asks n qs (Do st ∷ []))
backed-front n have [] st ts b = (b.0, tt)
backed-front n have (q ∷ qs) st ts b = backed-front n (q ∷ have) qs st ts b

-- a statement is to ask, at the level of its transaction
pub to-ask : (i : ℕ) (l : Layers) (t : Locks) (x : Status) (sts : List Bound) (k n : ℕ) (st : Bound) → drop k sts ≡ st ∷ drop (k + 1) sts
    → IsToGo i l t x sts k n → IsToAsk i t (in_status x st) n
to-ask i l t x sts k n st here go =
    let q = in_status x st in
    record {
      idle = go.idle;
      have = go.have;
      holds = go.holds;
      backed = backed-front (nowait q) go.have (drop n (asked q)) q (tasks_of (behind x st) (drop (k + 1) sts))
          (subst (λ ss. Backed go.have (tasks_from x ss n)) here go.backed);
    }

-- the others' overlays lie under their locks still
pub still-under : (i : ℕ) (l m : Layers) (t u : Locks) → SameOthers i l m t u → ((c : ℕ) → c ≢ i → UnderLocks (overlay_of c l) (slice c t.held)) → (c : ℕ)
    → c ≢ i → UnderLocks (overlay_of c m) (slice c u.held)
still-under i l m t u same under c ne = subst (λ (h : Held). UnderLocks (overlay_of c m) h) (sym (same.held c ne))
    (subst (λ (o : Overlay). UnderLocks o (slice c t.held)) (sym (same.overlays c ne)) (under c ne))

-- the next statement is to go, wherever the session stands then with its block
pub next-to-go : (i : ℕ) (l m : Layers) (t u : Locks) (x y : Status) (sts : List Bound) (k n : ℕ) → SameOthers i l m t u → u.waits ≡ t.waits
    → IsToGo i l t x sts k n → IsToGo i m u y sts (k + 1) 0
next-to-go i l m t u x y sts k n same waits go = record {
  idle = ap (λ ws. waits_now ws i) waits ∙ go.idle;
  under = still-under i l m t u same go.under;
  have = [];
  holds = tt;
  backed = subst (Backed []) (sym (tasks_from-start y (drop (k + 1) sts))) (backed-tasks y (drop (k + 1) sts));
}

-- what a statement does it does at each level
pub does-at : (i : ℕ) (b : Status) (x y : Standing) (st : Bound) → DoesTo i x st y → DoesTo i x (in_status b st) y
does-at i b x y st does = record {
  goes = perform-in_status b (session_in i x) x.layers.committed st ∙ does.goes;
  others = does.others;
  waits = does.waits;
}

pub fails-at : (i : ℕ) (b : Status) (x y : Standing) (st : Bound) (f : Fault) → FailsBy i x st f y → FailsBy i x (in_status b st) f y
fails-at i b x y st f fails = record { fails = perform-in_status b (session_in i x) x.layers.committed st ∙ fails.fails; same = fails.same }

-- what may be looked at by a statement at its level may be looked at
may-at : (i : ℕ) (b : Status) (st : Bound) (l : Layers) → MayLook i (in_status b st) l → MayLook i st l
may-at i Outside st l may = may
may-at i (InBlock level) (Select t key c by out lock) l may = tt
may-at i (InBlock level) (Insert t key new) l may = may
may-at i (InBlock level) (Update t key sets c) l may = may
may-at i (InBlock level) (Delete t key c) l may = may
may-at i (InBlock level) (Lock t m n) l may = tt
may-at i (InBlock level) (Begin named) l may = tt
may-at i (InBlock level) Commit l may = tt
may-at i (InBlock level) Rollback l may = tt
may-at i (InBlock level) SetVariable l may = tt
may-at i Broken st l may = may

-- a statement that has all that it asks for may look at what is there
pub may-look : (i : ℕ) (b : Status) (st : Bound) (l : Layers) (u : Locks) → HeldTogether (look_in u) → ((c : ℕ) → c ≢ i → UnderLocks (overlay_of c l) (slice c u.held))
    → HoldsAll (slice i u.held) (asked (in_status b st)) → MayLook i st l
may-look i b st l u together under holds = may-at i b st l (at (is_unlocked (in_status b st)) refl)
  where
    at : (free : Bool) → is_unlocked (in_status b st) ≡ free → MayLook i (in_status b st) l
    at true is = may-unlocked i (in_status b st) l is
    at false is = may-alone i (in_status b st) l
        (sees-alone i (in_status b st) l u together under (subst (HoldsAll (slice i u.held)) (asked-locked (in_status b st) is) holds))

-- a statement asks and is done, and the next one follows
module _ (i : ℕ) (x y : Standing) (first : List Task) (b : Status) (sts : List Bound) (k n : ℕ) (st : Bound) (here : drop k sts
    ≡ st ∷ drop (k + 1) sts) (came : GoesOnTo i x first y (tasks_from b (drop k sts) n)) where
  abbrev q : Bound
  q = in_status b st

  abbrev left : List Task
  left = tasks_of (behind b st) (drop (k + 1) sts)

  came-here : GoesOnTo i x first y (asks (nowait q) (drop n (asked q)) (Do q ∷ left))
  came-here = subst (λ ss. GoesOnTo i x first y (tasks_from b ss n)) here came

  pub asked-then : (z : Standing) → ((ts : List Task) → GoesOnTo i y (asks (nowait (in_status b st)) (drop n (asked (in_status b st))) ts) z ts)
      → GoesOnTo i x first z (Do (in_status b st) ∷ tasks_of (behind b st) (drop (k + 1) sts))
  asked-then z had = goes-on-on i x y z first _ _ came-here (had (Do q ∷ left))

  pub done-then : (z w : Standing) → ((ts : List Task) → GoesOnTo i y (asks (nowait (in_status b st)) (drop n (asked (in_status b st))) ts) z ts)
      → ((ts : List Task) → GoesOnTo i z (Do (in_status b st) ∷ ts) w ts) → w.own.status ≡ behind b st
      → GoesOnTo i x first w (tasks_from w.own.status (drop (k + 1) sts) 0)
  done-then z w had does is = subst (GoesOnTo i x first w)
      (sym (tasks_from-start w.own.status (drop (k + 1) sts) ∙ ap (λ c. tasks_of c (drop (k + 1) sts)) is))
      (goes-on-on i x z w first _ _ (asked-then z had) (does left))

  pub fails-then : (z w : Standing) → ((ts : List Task) → GoesOnTo i y (asks (nowait (in_status b st)) (drop n (asked (in_status b st))) ts) z ts)
      → ((ts : List Task) → StopsIn i z (Do (in_status b st) ∷ ts) w) → StopsIn i x first w
  fails-then z w had fails = goes-on-stops i x z w first _ (asked-then z had) (fails left)

  pub refused-then : (w : Standing) → ((ts : List Task) → StopsIn i y (asks (nowait (in_status b st)) (drop n (asked (in_status b st))) ts) w)
      → StopsIn i x first w
  refused-then w refused = goes-on-stops i x y w first _ came-here (refused (Do q ∷ left))

  -- what is left behind the request that waits
  pub waits-then : (w : List Task → Standing) (r : ℕ)
      → ((ts : List Task) → StopsIn i y (asks (nowait (in_status b st)) (drop n (asked (in_status b st))) ts)
      (w (asks (nowait (in_status b st)) (drop (r + 1) (asked (in_status b st))) ts)))
      → StopsIn i x first (w (tasks_from b (drop k sts) (r + 1)))
  waits-then w r waits = subst (λ ss. StopsIn i x first (w (tasks_from b ss (r + 1)))) (sym here)
      (goes-on-stops i x y (w (asks (nowait q) (drop (r + 1) (asked q)) (Do q ∷ left))) first _ came-here (waits (Do q ∷ left)))
