-- What a lock table holds and who waits, with what each call does to it: tests up to a number of sessions.
use Rattle.std.specs.Prelude.{◌≡◌, ◌≢◌, ℕ, true, false, cond, not, ◌==◌, List, [], ◌∷◌, ◌++◌, Option, filter}
use Rattle.std.proofs.Common.{Ordering, Equal, nat_cmp}
use Rattle.std.specs.Ordering.{on, then_cmp}
use Rattle.std.specs.Cmp.{IsTotalOrder, nat_cmp_total, on_total, then_total}
use Rattle.std.specs.FinMap.{nat_cmp-IsAntisymmetric}
use Rattle.finite_maps.specs.Map.{Map, Order, get, insert, keep, entries, empty}
use Rattle.lock_modes.specs.Resource.{resource_order, resource_cmp, resource_total, resource_same, both_equal}
use Rattle.lock_queues.specs.Locks.{Wait, Spot, Look, fits_with, wanted, may_have, closes_ring, answered, next_grant}
use Rattle.lock_queues.specs.declared.answer.Taken.{Taken}
use Rattle.lock_queues.specs.declared.answer.Taken.TheVariants as at_once
use Rattle.lock_queues.specs.declared.answer.Answer.{Answer}
use Rattle.lock_queues.specs.declared.answer.Answer.TheVariants.{Granted, Waits, Ring}
use Rattle.lock_modes.specs.declared.mode.Mode.{Mode}
use Rattle.lock_modes.specs.declared.resource.Resource.{Resource}

abbrev pub Holding : Type 0
Holding = ℕ × Resource

abbrev pub holding_cmp : Holding → Holding → Ordering
holding_cmp = then_cmp (on (λ (h : Holding). h.0) nat_cmp) (on (λ (h : Holding). h.1) resource_cmp)

pub holding_same : (g h : Holding) → holding_cmp g h ≡ Equal → g ≡ h
holding_same g h e =
    let p = both_equal (nat_cmp g.0 h.0) _ e in
    let s = nat_cmp-IsAntisymmetric _ _ p.0 in
    let r = resource_same _ _ p.1 in
    λ i. (s i, r i)

pub holding_total : IsTotalOrder holding_cmp
holding_total = then_total (on_total (λ (h : Holding). h.0) nat_cmp_total) (on_total (λ (h : Holding). h.1) resource_total)

abbrev pub holding_order : Order Holding
holding_order = record { cmp = holding_cmp; total = holding_total; same = holding_same }

pub record Locks : Type 0 where
  pub held : Map holding_order Mode
  pub waits : List Wait

abbrev pub no_locks : Locks
no_locks = record { held = empty; waits = [] }

abbrev pub look_at : Map holding_order Mode → Look
look_at held = λ c r. get held (c, r)

abbrev pub look_in : Locks → Look
look_in l = look_at l.held

-- the table with the request waiting
abbrev pub queued : Locks → ℕ → Resource → Mode → Locks
queued l i r m = record { held = l.held; waits = l.waits ++ record { session = i; resource = r; mode = m } ∷ [] }

abbrev pub taken : Locks → ℕ → Resource → Mode → Locks
taken l i r m = record { held = insert l.held (i, r) (wanted (look_in l i r) m); waits = l.waits }

pub record Asked : Type 0 where
  pub answer : Answer
  pub locks : Locks

abbrev pub ask : ℕ → Locks → ℕ → Resource → Mode → Asked
ask count l i r m =
    elim (answered (may_have count (look_in l) l.waits i (look_in l i r) r m) (closes_ring count (look_in l) (queued l i r m).waits i)) [
      | Granted ↦ record { answer = Granted; locks = taken l i r m }
      | Waits ↦ record { answer = Waits; locks = queued l i r m }
      | Ring ↦ record { answer = Ring; locks = l }
    ]

pub record AskedNow : Type 0 where
  pub answer : Taken
  pub locks : Locks

-- the answer to a request that refuses to wait, and the locks behind it
abbrev pub ask_now : ℕ → Locks → ℕ → Resource → Mode → AskedNow
ask_now count l i r m =
    elim (may_have count (look_in l) l.waits i (look_in l i r) r m) [
      | true ↦ record { answer = at_once.Granted; locks = taken l i r m }
      | false ↦ record { answer = at_once.Refused; locks = l }
    ]

-- the session's modes go, and its wait
abbrev pub let_go : Locks → ℕ → Locks
let_go l i = record { held = keep (λ (h : Holding). not (h.0 == i)) l.held; waits = filter (λ w. not (w.session == i)) l.waits }

abbrev pub grant : Locks → Spot → Locks
grant l s = taken (record { held = l.held; waits = s.before ++ s.after }) s.wait.session s.wait.resource s.wait.mode

abbrev pub to_grant : ℕ → Locks → Option Spot
to_grant count l = next_grant count (look_in l) l.waits

-- ---- the same in words: over all numbers of sessions, however many there are

abbrev pub Fits : Look → ℕ → Resource → Mode → Type 0
Fits look i r m = (c : ℕ) → c ≢ i → fits_with m (look c r) ≡ true

-- ---- what one session holds

abbrev pub slice_of : ℕ → List (Holding × Mode) → Map resource_order Mode
slice_of i [] = empty
slice_of i (e ∷ es) = cond (e.0.0 == i) (insert (slice_of i es) e.0.1 e.1) (slice_of i es)

-- the session's own map
unfoldable pub slice : ℕ → Map holding_order Mode → Map resource_order Mode
slice i m = slice_of i (entries m)
