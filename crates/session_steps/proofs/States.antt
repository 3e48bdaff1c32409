-- A world in a store and a lock table: its sessions, and what one session's steps change of it.
use Rattle.std.proofs.Common.{◌≡◌, ◌≢◌, refl, sym, ap, ◌∙◌, subst, ℕ, zero, suc, ◌+◌, ◌<◌, ◌≤◌, false, cond, List, [], ◌∷◌, length, set, get_or, ◌⊎◌, ⊎_elim}
use Rattle.std.proofs.Common.{arith}
use Rattle.std.proofs.lemmas.List.{get_or_past}
use Rattle.finite_maps.specs.Map.{same_key, same_key-true, same_key-refl, get, insert, empty, get-empty}
use Rattle.lock_modes.specs.Resource.{resource_order}
use Rattle.lock_modes.specs.declared.mode.Mode.{Mode}
use Rattle.lock_modes.specs.declared.resource.Resource.{Resource}
use Rattle.lock_modes.specs.Rows.{Write}
use Rattle.lock_queues.specs.Locks.{wanted, next_grant, waits_now}
use Rattle.lock_queues.specs.LockTable.{Locks, look_in, taken, let_go, to_grant, slice}
use Rattle.lock_queues.specs.Laws.{IsBelow}
use Rattle.lock_queues.proofs.Slices.{get-slice, slice-insert, slice-insert_other, slice-let_go, slice-let_go_other}
use Rattle.row_tables.specs.Overlay.{written}
use Rattle.row_tables.specs.Layers.{Layers, session_order, overlay_of, wrote, undone, kept}
use Rattle.row_tables.proofs.LayersLemmas.{overlay_of-wrote, overlay_of-undone, overlay_of-kept}
use Rattle.statement_evaluation.specs.Effect.{Effect, Gives, Faults}
use Rattle.statement_execution.specs.Run.{wrote_each, left_by}
use Rattle.machine_model.specs.Session.{Session}
use Rattle.machine_model.specs.Go.{taking}
use Rattle.machine_model.specs.World.{fresh, session_at, look_of}
use Rattle.session_steps.specs.State.{Own, no_own, session_of, sessions_from, world_of, SameOthers}
use Rattle.machine_model.proofs.Basics.{known}

-- ---- the sessions

pub length-sessions_from : (l : Layers) (t : Locks) (i : ℕ) (owns : List Own) → length (sessions_from l t i owns) ≡ length owns
length-sessions_from l t i [] = refl
length-sessions_from l t i (own ∷ owns) = ap suc (length-sessions_from l t (suc i) owns)

get_or-sessions_from : (l : Layers) (t : Locks) (i c : ℕ) (owns : List Own) → c < length owns → get_or (sessions_from l t i owns) c fresh
    ≡ session_of l t (i + c) (get_or owns c no_own)
get_or-sessions_from l t i c [] lt = absurd (omega arith)
get_or-sessions_from l t i zero (own ∷ owns) lt = ap (λ n. session_of l t n own) (let e : i ≡ i + 0 = omega arith in e)
get_or-sessions_from l t i (suc c) (own ∷ owns) lt = get_or-sessions_from l t (suc i) c owns (omega arith)
    ∙ ap (λ n. session_of l t n (get_or owns c no_own)) (let e : suc i + c ≡ i + suc c = omega arith in e)

pub session_at-is : (l : Layers) (t : Locks) (owns : List Own) (c : ℕ) → c < length owns → session_at (world_of l t owns) c
    ≡ session_of l t c (get_or owns c no_own)
session_at-is l t owns c lt = get_or-sessions_from l t 0 c owns lt ∙ ap (λ n. session_of l t n (get_or owns c no_own)) (let e : 0 + c ≡ c = omega arith in e)

pub session_at-past : (l : Layers) (t : Locks) (owns : List Own) (c : ℕ) → length owns ≤ c → session_at (world_of l t owns) c ≡ fresh
session_at-past l t owns c le = get_or_past (sessions_from l t 0 owns) c fresh (let e = length-sessions_from l t 0 owns in omega arith)

-- a session is changed, and with it its part of the store and of the table
set-sessions_from : (l m : Layers) (t u : Locks) (k j : ℕ) (own : Own) (owns : List Own) → SameOthers (k + j) l m t u → sessions_from m u k (set owns j own)
    ≡ set (sessions_from l t k owns) j (session_of m u (k + j) own)
set-sessions_from l m t u k j own [] same = refl
set-sessions_from l m t u k zero own (o ∷ owns) same =
    let here : k ≡ k + 0 = omega arith in
    (λ n. session_of m u (here n) own ∷ rest-same (suc k) owns (λ c lt e. absurd (omega arith)) n)
  where
    rest-same : (n : ℕ) (os : List Own) → ((c : ℕ) → n ≤ c → c ≡ k + 0 → ⊥) → sessions_from m u n os ≡ sessions_from l t n os
    rest-same n [] off = refl
    rest-same n (p ∷ os) off =
        let apart : n ≢ k + 0 = λ e. off n (omega arith) e in
        λ x. record {
          overlay = same.overlays n apart x;
          held = same.held n apart x;
          status = p.status;
          rest = p.rest;
          transcript = p.transcript;
        } ∷ rest-same (suc n) os (λ c le e. off c (omega arith) e) x
set-sessions_from l m t u k (suc j) own (o ∷ owns) same =
    let apart : k ≢ k + suc j = λ e. omega arith in
    let next : suc k + j ≡ k + suc j = omega arith in
    (λ x. record { overlay = same.overlays k apart x; held = same.held k apart x; status = o.status; rest = o.rest; transcript = o.transcript }
    ∷ (set-sessions_from l m t u (suc k) j own owns (subst (λ n. SameOthers n l m t u) (sym next) same)
    ∙ ap (λ n. set (sessions_from l t (suc k) owns) j (session_of m u n own)) next) x)

pub sessions-set : (l m : Layers) (t u : Locks) (i : ℕ) (own : Own) (owns : List Own) → SameOthers i l m t u → sessions_from m u 0 (set owns i own)
    ≡ set (sessions_from l t 0 owns) i (session_of m u i own)
sessions-set l m t u i own owns same =
    let e : 0 + i ≡ i = omega arith in
    set-sessions_from l m t u 0 i own owns (subst (λ n. SameOthers n l m t u) (sym e) same)
    ∙ ap (λ n. set (sessions_from l t 0 owns) i (session_of m u n own)) e

-- ---- look-ups

-- where no session past the last holds a lock, the world's look-ups are the table's
pub look-is : (l : Layers) (t : Locks) (owns : List Own) → IsBelow (length owns) t → look_of (world_of l t owns) ≡ look_in t
look-is l t owns below = λ k c r. at c r k
  where
    at : (c : ℕ) (r : Resource) → look_of (world_of l t owns) c r ≡ look_in t c r
    at c r =
        let cases : (c < length owns) ⊎ (length owns ≤ c) = grind arith in
        ⊎_elim (λ lt. ap (λ (s : Session). get s.held r) (session_at-is l t owns c lt) ∙ get-slice c t.held r)
        (λ le. ap (λ (s : Session). get s.held r) (session_at-past l t owns c le) ∙ get-empty resource_order Mode r ∙ sym (below.holders c r le)) cases

-- the next grant of the world is that of the table
pub next-is : (l : Layers) (t : Locks) (owns : List Own) → IsBelow (length owns) t
    → next_grant (length (world_of l t owns).sessions) (look_of (world_of l t owns)) t.waits ≡ to_grant (length owns) t
next-is l t owns below = λ k. next_grant (length-sessions_from l t 0 owns k) (look-is l t owns below k) t.waits

-- ---- who else is changed

pub same-refl : (i : ℕ) (l : Layers) (t : Locks) → SameOthers i l l t t
same-refl i l t = record { overlays = λ c ne. refl; held = λ c ne. refl }

pub same-trans : (i : ℕ) (l m n : Layers) (t u v : Locks) → SameOthers i l m t u → SameOthers i m n u v → SameOthers i l n t v
same-trans i l m n t u v p q = record { overlays = λ c ne. q.overlays c ne ∙ p.overlays c ne; held = λ c ne. q.held c ne ∙ p.held c ne }

-- ---- the table

-- a mode that a session takes is its own
pub held-taken : (t : Locks) (i : ℕ) (r : Resource) (m : Mode) → slice i (taken t i r m).held ≡ insert (slice i t.held) r (wanted (get (slice i t.held) r) m)
held-taken t i r m = slice-insert t.held i r (wanted (look_in t i r) m) ∙ ap (λ o. insert (slice i t.held) r (wanted o m)) (sym (get-slice i t.held r))

pub session-taken : (l : Layers) (t : Locks) (i : ℕ) (r : Resource) (m : Mode) (own : Own) → session_of l (taken t i r m) i own
    ≡ taking (session_of l t i own) r m
session-taken l t i r m own = λ k. record {
  overlay = overlay_of i l;
  held = held-taken t i r m k;
  status = own.status;
  rest = own.rest;
  transcript = own.transcript;
}

pub same-taken : (l : Layers) (t : Locks) (i : ℕ) (r : Resource) (m : Mode) → SameOthers i l l t (taken t i r m)
same-taken l t i r m = record { overlays = λ c ne. refl; held = λ c ne. slice-insert_other t.held i c r (wanted (look_in t i r) m) ne }

-- a session that lets go holds nothing
pub held-let_go : (t : Locks) (i : ℕ) → slice i (let_go t i).held ≡ empty
held-let_go t i = slice-let_go t.held i

pub same-let_go : (l : Layers) (t : Locks) (i : ℕ) → SameOthers i l l t (let_go t i)
same-let_go l t i = record { overlays = λ c ne. refl; held = λ c ne. slice-let_go_other t.held i c ne }

-- nobody else's wait goes, and its own is not there
pub waits-let_go : (t : Locks) (i : ℕ) → waits_now t.waits i ≡ false → (let_go t i).waits ≡ t.waits
waits-let_go t i idle = sym (Rattle.lock_queues.proofs.Keeping.absent-others i t.waits idle)

-- ---- the store

overlay-wrote : (i : ℕ) (w : Write) (l : Layers) → overlay_of i (wrote i w.place w.left l) ≡ insert (overlay_of i l) w.place w.left
overlay-wrote i w l = overlay_of-wrote i w.place w.left l i
    ∙ ap (λ b. cond b (insert (overlay_of i l) w.place w.left) (overlay_of i l)) (same_key-refl session_order i)

-- what a session writes is its own
pub overlay-wrote_each : (i : ℕ) (ws : List Write) (l : Layers) → overlay_of i (wrote_each i ws l) ≡ written ws (overlay_of i l)
overlay-wrote_each i [] l = refl
overlay-wrote_each i (w ∷ ws) l = overlay-wrote_each i ws (wrote i w.place w.left l) ∙ ap (written ws) (overlay-wrote i w l)

apart : (c i : ℕ) → c ≢ i → same_key session_order c i ≡ false
apart c i ne = ⊎_elim (λ h. absurd (ne (same_key-true session_order c i h))) (λ h. h) (known (same_key session_order c i))

pub same-wrote : (i : ℕ) (w : Write) (l : Layers) (t : Locks) → SameOthers i l (wrote i w.place w.left l) t t
same-wrote i w l t = record {
  overlays = λ c ne. overlay_of-wrote i w.place w.left l c
      ∙ ap (λ b. cond b (insert (overlay_of i l) w.place w.left) (overlay_of c l)) (apart c i ne);
  held = λ c ne. refl;
}

same-wrote_each : (i : ℕ) (ws : List Write) (l : Layers) (t : Locks) → SameOthers i l (wrote_each i ws l) t t
same-wrote_each i [] l t = same-refl i l t
same-wrote_each i (w ∷ ws) l t = same-trans i l (wrote i w.place w.left l) (wrote_each i (w ∷ ws) l) t t t (same-wrote i w l t)
    (same-wrote_each i ws (wrote i w.place w.left l) t)

pub same-left_by : (i : ℕ) (e : Effect) (l : Layers) (t : Locks) → SameOthers i l (left_by i e l) t t
same-left_by i (Gives events writes) l t = same-wrote_each i writes l t
same-left_by i (Faults f) l t = same-refl i l t

-- where its overlay is kept or dropped it has none
pub overlay-undone : (i : ℕ) (l : Layers) → overlay_of i (undone i l) ≡ empty
overlay-undone i l = overlay_of-undone i l i ∙ ap (λ b. cond b empty (overlay_of i l)) (same_key-refl session_order i)

pub overlay-kept : (i : ℕ) (l : Layers) → overlay_of i (kept i l) ≡ empty
overlay-kept i l = overlay_of-kept i l i ∙ ap (λ b. cond b empty (overlay_of i l)) (same_key-refl session_order i)

pub same-undone : (i : ℕ) (l : Layers) (t : Locks) → SameOthers i l (undone i l) t t
same-undone i l t = record { overlays = λ c ne. overlay_of-undone i l c ∙ ap (λ b. cond b empty (overlay_of c l)) (apart c i ne); held = λ c ne. refl }

pub same-kept : (i : ℕ) (l : Layers) (t : Locks) → SameOthers i l (kept i l) t t
same-kept i l t = record { overlays = λ c ne. overlay_of-kept i l c ∙ ap (λ b. cond b empty (overlay_of c l)) (apart c i ne); held = λ c ne. refl }

-- ---- the committed rows

committed-wrote_each : (session : ℕ) (ws : List Write) (l : Layers) → (wrote_each session ws l).committed ≡ l.committed
committed-wrote_each session [] l = refl
committed-wrote_each session (w ∷ ws) l = committed-wrote_each session ws (wrote session w.place w.left l)

-- a statement leaves the committed rows
pub committed-left_by : (session : ℕ) (e : Effect) (l : Layers) → (left_by session e l).committed ≡ l.committed
committed-left_by session (Gives events writes) l = committed-wrote_each session writes l
committed-left_by session (Faults f) l = refl
